-- `sound_stocks::are_sound_nominals` meets its contract: the nominals below `4 * k` are added.
-- Assumes nothing.
use borrow.Author.Rules.{rules}
use native.Mathlib.Omega.{arith}
use Rattle.sound_stocks.proofs.Stocks.{adding_starts, adding_ends, judged_fails, judged_passes}
use Rattle.sound_stocks.proofs.are_sound_nominals.Goals as goal

pub loop-k-init : goal.loop-k-init
loop-k-init c = (omega arith, search adding_starts)

pub returns-then-not-are_four_sound : goal.returns-then-not-are_four_sound
returns-then-not-are_four_sound c = search judged_fails

pub loop-k-preserved : goal.loop-k-preserved
loop-k-preserved c = (omega arith, judged_passes _ c.are_four_sound.ensures (search rules))

pub returns : goal.returns
returns c = search adding_ends
