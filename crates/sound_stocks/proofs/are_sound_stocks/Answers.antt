-- `sound_stocks::are_sound_stocks` meets its contract: the exposures below `e` are added.
-- Assumes nothing.
use native.Mathlib.Omega.{arith}
use Rattle.facts.proofs.Truth.{below}
use Rattle.sound_stocks.proofs.Stocks.{accounts_fail, held_starts, held_ends, judged_ends, judged_passes}
use borrow.Author.Rules.{rules}
use Rattle.sound_stocks.proofs.are_sound_stocks.Goals as goal

pub returns-then-not-are_small_accounts : goal.returns-then-not-are_small_accounts
returns-then-not-are_small_accounts c = search accounts_fail

pub loop-e-init : goal.loop-e-init
loop-e-init c = (omega arith, search rules, search held_starts)

pub is_sound_stock-requires : goal.is_sound_stock-requires
is_sound_stock-requires c = (search rules, below _ 64 c.loop-e.invariant.1 _ (omega arith), search rules)

pub returns-then-not-is_sound_stock : goal.returns-then-not-is_sound_stock
returns-then-not-is_sound_stock c = search judged_ends

pub loop-e-preserved : goal.loop-e-preserved
loop-e-preserved c = (omega arith, search rules, judged_passes _ c.is_sound_stock.ensures (search rules))

pub returns : goal.returns
returns c = search held_ends
