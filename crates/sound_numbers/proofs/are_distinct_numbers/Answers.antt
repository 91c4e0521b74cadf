-- `sound_numbers::are_distinct_numbers` meets its contract: those below `i` passed and are marked.
-- Assumes nothing.
use mathlib.Core.Path.{refl}
use native.Mathlib.Omega.{arith}
use Rattle.laws.proofs.Least.{loop_fails, loop_passes, loop_ends}
use Rattle.sound_numbers.proofs.Numbers.{marked_none}
use borrow.Author.Rules.{rules}
use Rattle.sound_numbers.proofs.are_distinct_numbers.Goals as goal

pub loop-i-init : goal.loop-i-init
loop-i-init c = (omega arith, record { decides = refl }, search marked_none)

pub returns-then-not-is_new_number : goal.returns-then-not-is_new_number
returns-then-not-is_new_number c = search loop_fails

pub loop-i-preserved : goal.loop-i-preserved
loop-i-preserved c = (omega arith, search loop_passes, search rules)

pub returns : goal.returns
returns c = search loop_ends
