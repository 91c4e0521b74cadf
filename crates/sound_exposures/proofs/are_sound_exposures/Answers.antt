-- `sound_exposures::are_sound_exposures` meets its contract: those below `e` passed.
-- Assumes nothing.
use mathlib.Core.Path.{refl}
use native.Mathlib.Omega.{arith}
use Rattle.laws.proofs.Least.{loop_fails, loop_passes, loop_ends}
use Rattle.sound_exposures.proofs.are_sound_exposures.Goals as goal

pub loop-e-init : goal.loop-e-init
loop-e-init c = (omega arith, record { decides = refl })

pub returns-then-not-is_sound_exposure : goal.returns-then-not-is_sound_exposure
returns-then-not-is_sound_exposure c = search loop_fails

pub loop-e-preserved : goal.loop-e-preserved
loop-e-preserved c = (omega arith, search loop_passes)

pub returns : goal.returns
returns c = search loop_ends
