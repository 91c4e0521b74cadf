-- `sound_stocks::are_four_sound` meets its contract: the nominals below `i` are added.
-- Assumes nothing.
use native.Mathlib.Omega.{arith}
use Rattle.sound_stocks.proofs.Stocks.{four_nothing, four_ends, judged_fails, judged_passes}
use borrow.Author.Rules.{rules}
use Rattle.sound_stocks.proofs.are_four_sound.Goals as goal

pub returns-then-are_rows_empty : goal.returns-then-are_rows_empty
returns-then-are_rows_empty c = search four_nothing

pub returns-then-not-is_sound_nominal : goal.returns-then-not-is_sound_nominal
returns-then-not-is_sound_nominal c = search judged_fails

pub loop-i-preserved : goal.loop-i-preserved
loop-i-preserved c = (search rules, search rules, omega arith, judged_passes _ c.is_sound_nominal.ensures (search rules))

pub returns : goal.returns
returns c = search four_ends
