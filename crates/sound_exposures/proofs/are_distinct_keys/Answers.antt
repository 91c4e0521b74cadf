-- `sound_exposures::are_distinct_keys` meets its contract: those below `e` passed and are marked.
-- Assumes nothing.
use mathlib.Core.Path.{refl}
use native.Mathlib.Omega.{arith}
use Rattle.laws.proofs.Least.{loop_fails, loop_passes, loop_ends}
use Rattle.sound_exposures.proofs.Keys.{keys_marked_none}
use borrow.Author.Rules.{rules}
use Rattle.sound_exposures.proofs.are_distinct_keys.Goals as goal

pub loop-e-init : goal.loop-e-init
loop-e-init c = (omega arith, record { decides = refl }, search keys_marked_none)

pub returns-then-not-is_new_key : goal.returns-then-not-is_new_key
returns-then-not-is_new_key c = search loop_fails

pub loop-e-preserved : goal.loop-e-preserved
loop-e-preserved c = (omega arith, search loop_passes, search rules)

pub returns : goal.returns
returns c = search loop_ends
