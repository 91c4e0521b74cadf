-- `day_change::change_profiles` meets its contract: the profiles below `p` are changed.
-- Assumes nothing.
use mathlib.Core.Path.{◌≡◌}
use Prim.Native.Nat.{◌≤◌}
use Rattle.book.specs.State.{state}
use Rattle.rules.specs.DayChange.{on_each, change_takes_effect}
use Rattle.day_change.specs.Parts.{profile_waits}
use Rattle.day_change.proofs.change_profiles.Given as goal

abbrev pub invariant-loop-p : goal.invariant-loop-p
invariant-loop-p l = (l.p ≤ 32) × (state l.book ≡ on_each (profile_waits (state l.initial.book)) change_takes_effect l.p (state l.initial.book))
