-- `baskets::earliest_quote` meets its contract: none of the securities below `i` was quoted before the day.
-- Assumes nothing.
use Prim.Native.Nat.{◌≤◌}
use Rattle.baskets.specs.Fresh.{NoneBefore}
use Rattle.baskets.proofs.earliest_quote.Given as goal

abbrev pub invariant-loop-i : goal.invariant-loop-i
invariant-loop-i l = (l.i ≤ 64) × NoneBefore l.day l.i l.columns
