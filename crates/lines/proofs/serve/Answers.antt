-- `lines::serve` meets its contract: what is done so far and what the rest leaves are what the whole piece leaves.
-- Assumes nothing.
use Rattle.std.proofs.Common.{◌∙◌, arith}
use Rattle.lines.proofs.Serving.{walk_begins, walk_on, walk_ends, rest_of}
use Rattle.lines.proofs.serve.Goals as goal

pub loop-served-init : goal.loop-served-init
loop-served-init c = walk_begins _ _ _ _

pub loop-served-preserved : goal.loop-served-preserved
loop-served-preserved c =
    let l = c.loop-served in
    let line = c.in-Some.served.line.items in
    let (more, is_taken, within, is_line, is_book) = rw (rest_of c.args.piece.now l.p.taken) at c.in-Some.ensures.some in
    let copied = c.copy_from_slice.ensures.after ∙ c.deref.ensures.0 in
    let short = rw c.deref.ensures.0 at c.deref.ensures.1 in
    rw (copied, is_book)
    (walk_on l.invariant line (omega arith) more (omega arith) short is_line (omega arith, omega arith) (omega arith) (omega arith) (omega arith))

pub returns-clause-serves : goal.returns-clause-serves
returns-clause-serves c =
    let l = c.loop-served in
    let none = rw (rest_of c.args.piece.now l.p.taken) at c.in_default.ensures.none in
    rw none.1 (walk_ends l.invariant none.0)
