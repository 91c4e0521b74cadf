-- `sound_stocks::are_small_accounts_of` meets its contract: the test of each account decides.
-- Assumes nothing.
use borrow.Author.Rules.{rules}
use Rattle.laws.proofs.Ranges.{all_over_range}
use Rattle.book.specs.State.{state}
use Rattle.sound_stocks.specs.Stocks.{small_account}
use Rattle.sound_stocks.proofs.Stocks.{account_nothing}
use Rattle.sound_stocks.proofs.are_small_accounts_of.Goals as goal

pub returns-then-are_rows_empty : goal.returns-then-are_rows_empty
returns-then-are_rows_empty c = search account_nothing

pub returns : goal.returns
returns c = all_over_range (small_account (state c.args.book.now) c.args.p) _ _ _ c.all.ensures.ran (λ x y q k. search rules)
