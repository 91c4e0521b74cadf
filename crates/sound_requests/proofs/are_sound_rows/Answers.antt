-- `sound_requests::are_sound_rows` meets its contract: those below `16 * k` passed.
-- Assumes nothing.
use mathlib.Core.Path.{refl}
use native.Mathlib.Omega.{arith}
use Rattle.sound_requests.proofs.Blocks.{sixteen_fail, sixteen_pass, sixteens_end}
use Rattle.sound_requests.proofs.Later.{passed_none, passed_sixteen}
use Rattle.sound_requests.proofs.are_sound_rows.Goals as goal

pub loop-k-init : goal.loop-k-init
loop-k-init c = (omega arith, record { decides = refl }, search passed_none)

pub returns-then-not-are_sixteen_sound : goal.returns-then-not-are_sixteen_sound
returns-then-not-are_sixteen_sound c = search sixteen_fail

pub loop-k-preserved : goal.loop-k-preserved
loop-k-preserved c = (omega arith, search sixteen_pass, search passed_sixteen)

pub returns : goal.returns
returns c = search sixteens_end
