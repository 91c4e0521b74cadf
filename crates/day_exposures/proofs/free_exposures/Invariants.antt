-- `day_exposures::free_exposures` meets its contract: the idle exposures below `e` are freed.
-- Assumes nothing.
use mathlib.Core.Path.{◌≡◌}
use Prim.Native.Nat.{◌≤◌}
use Rattle.book.specs.State.{state}
use Rattle.rules.specs.DayChange.{on_each, is_idle, exposure_freed}
use Rattle.day_exposures.specs.Parts.{Marked}
use Rattle.day_exposures.proofs.free_exposures.Given as goal

abbrev pub invariant-loop-e : goal.invariant-loop-e
invariant-loop-e l = (l.e ≤ 64)
    × (state l.book ≡ on_each (is_idle (state l.initial.book)) exposure_freed l.e (state l.initial.book))
    × Marked (state l.initial.book) l.marks 256
