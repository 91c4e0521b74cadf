-- `eligibility::greatest_age` meets its contract: no basket below `b` takes an older price.
-- Assumes nothing.
use Prim.Native.Nat.{◌≤◌}
use Rattle.book.specs.State.{state}
use Rattle.eligibility.specs.Fresh.{Aged}
use Rattle.eligibility.proofs.greatest_age.Given as goal

abbrev pub invariant-loop-b : goal.invariant-loop-b
invariant-loop-b l = (l.b ≤ 16) × Aged l.most l.b (state l.book) × (l.most ≤ 255)
