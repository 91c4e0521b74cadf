-- `sound_stocks::are_sound_stocks` meets its contract: the exposures below `e` are added.
-- Assumes nothing.
use Prim.Native.Nat.{◌≤◌}
use mathlib.Core.Bool.{true}
use mathlib.Core.Path.{◌≡◌}
use Rattle.laws.specs.Search.{all}
use Rattle.book.specs.State.{state}
use Rattle.rules.specs.ByRow.{sound_exposure}
use Rattle.sound_stocks.specs.Stocks.{Held}
use Rattle.sound_stocks.proofs.are_sound_stocks.Given as goal

abbrev pub invariant-loop-e : goal.invariant-loop-e
invariant-loop-e l = (l.e ≤ 64) × (all (sound_exposure (state l.book)) 64 0 ≡ true) × Held (state l.book) l.e l.held
