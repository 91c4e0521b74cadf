-- `book::change_row` meets its contract: the numbers below i are changed.
-- Assumes nothing.
use Prim.Native.Nat.{◌≤◌}
use Rattle.book.specs.Row.{Changed}
use Rattle.book.proofs.change_row.Given as goal

abbrev pub invariant-loop-i : goal.invariant-loop-i
invariant-loop-i g l = (l.i ≤ 64) × Changed (goal.F-post g l.change) l.fn.row l.by l.i l.row
