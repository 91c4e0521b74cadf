-- `sound_setup::are_sound_securities` meets its contract: those below `i` passed.
-- Assumes nothing.
use mathlib.Core.Path.{refl}
use native.Mathlib.Omega.{arith}
use Rattle.laws.proofs.Least.{loop_fails, loop_passes, loop_ends}
use Rattle.sound_setup.proofs.are_sound_securities.Goals as goal

pub loop-i-init : goal.loop-i-init
loop-i-init c = (omega arith, record { decides = refl })

pub returns-then-not-is_sound_security : goal.returns-then-not-is_sound_security
returns-then-not-is_sound_security c = search loop_fails

pub loop-i-preserved : goal.loop-i-preserved
loop-i-preserved c = (omega arith, search loop_passes)

pub returns : goal.returns
returns c = search loop_ends
