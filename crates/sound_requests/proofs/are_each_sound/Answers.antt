-- `sound_requests::are_each_sound` meets its contract: those below `i` passed.
-- Assumes nothing.
use native.Mathlib.Omega.{arith}
use Rattle.laws.proofs.Least.{loop_fails, loop_passes, loop_ends}
use Rattle.sound_requests.proofs.Blocks.{sixteen_starts}
use Rattle.sound_requests.proofs.Later.{passed_next}
use borrow.Author.Rules.{rules}
use Rattle.sound_requests.proofs.are_each_sound.Goals as goal

pub loop-i-init : goal.loop-i-init
loop-i-init c = (search rules, omega arith, omega arith, search sixteen_starts, search rules)

pub returns-then-not-is_sound_row : goal.returns-then-not-is_sound_row
returns-then-not-is_sound_row c = search loop_fails

pub loop-i-preserved : goal.loop-i-preserved
loop-i-preserved c = (search rules, search rules, omega arith, search loop_passes, search passed_next)

pub returns : goal.returns
returns c = search loop_ends
