-- `book::change_row` meets its contract: the numbers below i are changed.
-- Assumes nothing.
use mathlib.Core.Path.{◌∙◌}
use native.Mathlib.Omega.{arith}
use Rattle.book.proofs.Rows.{change_start, change_next, change_end}
use Rattle.book.proofs.change_row.Goals as goal

pub loop-i-init : goal.loop-i-init
loop-i-init g c = (omega arith, change_start _ _ _ c.requires.long)

pub change-x-requires : goal.change-x-requires
change-x-requires g c =
    let l = c.loop-i in
    let same = c.number_at.ensures.0 ∙ l.invariant.1.rest l.i (omega arith) (omega arith) in
    rw same (c.requires.may_be l.i (omega arith))

pub loop-i-preserved : goal.loop-i-preserved
loop-i-preserved g c =
    let l = c.loop-i in
    let same = c.number_at.ensures.0 ∙ l.invariant.1.rest l.i (omega arith) (omega arith) in
    let small = c.requires.fits l.i (omega arith) c.change-x.result (rw same at c.change-x.ensures) in
    (omega arith, change_next _ _ _ l.row _ l.i c.number_at.result c.change-x.result (omega arith) l.invariant.1 c.number_at.ensures.0 c.change-x.ensures small c.put_number.ensures)

pub returns : goal.returns
returns g c = change_end _ _ _ c.loop-i.i c.loop-i.row (omega arith) (omega arith) c.loop-i.invariant.1
