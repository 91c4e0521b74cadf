-- `day_exposures::mark_rows` meets its contract: the exposures of the rows below `i` are marked.
-- Assumes nothing.
use Prim.Native.Nat.{◌≤◌}
use Rattle.book.specs.State.{state}
use Rattle.day_exposures.specs.Parts.{Marked}
use Rattle.day_exposures.proofs.mark_rows.Given as goal

abbrev pub invariant-loop-i : goal.invariant-loop-i
invariant-loop-i l = (l.i ≤ 256) × Marked (state l.book) l.marks l.i
