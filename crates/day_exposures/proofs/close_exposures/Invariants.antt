-- `day_exposures::close_exposures` meets its contract: the exposures below `e` are closed, and their amounts summed.
-- Assumes nothing.
use mathlib.Core.Path.{◌≡◌}
use Prim.Native.Nat.{◌≤◌}
use Rattle.laws.specs.Sum.{sum}
use Rattle.book.specs.State.{state}
use Rattle.rules.specs.DayChange.{on_each, is_exposure_closed, exposure_closed}
use Rattle.day_exposures.specs.Parts.{amount_closed}
use Rattle.day_exposures.proofs.close_exposures.Given as goal

abbrev pub invariant-loop-e : goal.invariant-loop-e
invariant-loop-e l = (l.e ≤ 64)
    × (l.closed ≡ sum (amount_closed (state l.initial.book)) l.e)
    × (state l.book ≡ on_each (is_exposure_closed (state l.initial.book)) exposure_closed l.e (state l.initial.book))
