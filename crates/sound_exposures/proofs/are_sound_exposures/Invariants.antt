-- `sound_exposures::are_sound_exposures` meets its contract: those below `e` passed.
-- Assumes nothing.
use Prim.Native.Nat.{◌≤◌}
use Rattle.laws.specs.Search.{all}
use Rattle.laws.proofs.Least.{Rest}
use Rattle.book.specs.State.{state}
use Rattle.rules.specs.ByRow.{sound_exposure}
use Rattle.sound_exposures.proofs.are_sound_exposures.Given as goal

abbrev pub invariant-loop-e : goal.invariant-loop-e
invariant-loop-e l = (l.e ≤ 64) × Rest (sound_exposure (state l.book)) 64 l.e (all (sound_exposure (state l.book)) 64 0)
