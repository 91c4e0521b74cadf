-- `calendar::fresh_days` meets its contract: the ages below that of the day `before` have their first fresh day.
-- Assumes nothing.
use Prim.Native.Nat.{◌≤◌}
use mathlib.Core.Path.{◌≡◌}
use lib.ListN.{length}
use Rattle.calendar.proofs.Fresh.{Walked}
use Rattle.calendar.proofs.fresh_days.Given as goal

abbrev pub invariant-loop-before : goal.invariant-loop-before
invariant-loop-before l = (l.age ≤ 256) × (length l.days ≡ 256) × Walked l.today l.before l.age l.days
