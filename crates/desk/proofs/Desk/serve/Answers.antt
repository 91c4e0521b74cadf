-- `desk::Desk::serve` meets its contract: after each piece, what was written and the text of what is held are the text of the whole input.
-- Assumes nothing.
use Rattle.std.proofs.Common.{◌≡◌, true, false, Some, arith}
use Rattle.lines.specs.Pieces.{is_over}
use Rattle.std.proofs.lemmas.Result.{err_from_is_err_and}
use Rattle.desk.proofs.Streams.{begins, goes_on, undelivered, short}
use Rattle.desk.proofs.Desk.serve.Goals as goal

pub loop-turn-init : goal.loop-turn-init
loop-turn-init g c =
    let start = c.requires in
    (omega arith, rw start.1 (omega arith), rw (start.0, start.1, start.2) (begins _ _))

pub loop-turn-preserved : goal.loop-turn-preserved
loop-turn-preserved g c =
    let l = c.loop-turn in
    let piece = c.in_ok-count.ensures.piece in
    let more : is_over (Some c.in_ok-count.count) c.serve_piece.new.self.input ≡ false = cc in
    (omega (arith, c.serve_piece.ensures.place_bound), short c.serve_piece.new.self.input c.in_ok-count.count more piece.served.none, goes_on l.invariant.2 piece)

pub returns-then-is_over : goal.returns-then-is_over
returns-then-is_over g c =
    let l = c.loop-turn in
    let over : is_over (Some c.in_ok-count.count) c.serve_piece.new.self.input ≡ true = cc in
    record {
      streams = goes_on l.invariant.2 c.in_ok-count.ensures.piece;
      over = record { count = c.in_ok-count.count; over = over; end = λ none. c.in_ok-count.ensures.end none (omega arith) };
      failed_write = tt;
      failed_read = tt;
    }

pub returns-in_err-count-clause-failed_write : goal.returns-in_err-count-clause-failed_write
returns-in_err-count-clause-failed_write g c =
    let p = err_from_is_err_and c.from_residual.result c.from_residual.ensures.1 in
    rw (p.1, p.2) (λ failed. undelivered c.loop-turn.invariant.2 (c.in_err-count.ensures.failed_write failed))
