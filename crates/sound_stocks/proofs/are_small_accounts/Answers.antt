-- `sound_stocks::are_small_accounts` meets its contract: the test of each participant decides.
-- Assumes nothing.
use borrow.Author.Rules.{rules}
use Rattle.laws.proofs.Ranges.{all_over_range}
use Rattle.book.specs.State.{state}
use Rattle.sound_stocks.specs.Stocks.{small_accounts}
use Rattle.sound_stocks.proofs.are_small_accounts.Goals as goal

pub returns : goal.returns
returns c = all_over_range (small_accounts (state c.args.book.now)) _ _ _ c.all.ensures.ran (λ x y q k. search rules)
