-- `sound_setup::are_sound_securities` meets its contract: those below `i` passed.
-- Assumes nothing.
use Prim.Native.Nat.{◌≤◌}
use Rattle.laws.specs.Search.{all}
use Rattle.laws.proofs.Least.{Rest}
use Rattle.book.specs.State.{state}
use Rattle.rules.specs.ByRow.{sound_security}
use Rattle.sound_setup.proofs.are_sound_securities.Given as goal

abbrev pub invariant-loop-i : goal.invariant-loop-i
invariant-loop-i l = (l.i ≤ 64) × Rest (sound_security (state l.book)) 64 l.i (all (sound_security (state l.book)) 64 0)
