-- `exposure_search::put_hints` meets its contract: the hints are those of the exposures below `e`.
-- Assumes nothing.
use mathlib.Core.Path.{◌≡◌}
use Prim.Native.Nat.{◌≤◌}
use Rattle.book.specs.State.{state}
use Rattle.exposure_search.specs.Slots.{with_hints}
use Rattle.exposure_search.proofs.put_hints.Given as goal

abbrev pub invariant-loop-e : goal.invariant-loop-e
invariant-loop-e l = (l.e ≤ 64) × (l.hints ≡ with_hints (state l.book) l.initial.hints l.e)
