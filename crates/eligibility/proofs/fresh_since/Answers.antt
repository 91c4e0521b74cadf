-- `eligibility::fresh_since` meets its contract: each basket has the day of its age.
-- Assumes nothing.
use borrow.Author.Rules.{rules}
use lib.ListN.{get_or}
use Rattle.book.specs.Layout.{greatest_ages}
use Rattle.book.specs.State.{state}
use Rattle.book.proofs.Filling.{filled_from_fn}
use Rattle.eligibility.proofs.Fresh.{baskets_fresh}
use Rattle.eligibility.proofs.fresh_since.Goals as goal

pub returns : goal.returns
returns c =
    baskets_fresh c.requires.1 c.get.ensures c.greatest_age-most.ensures.0 c.fresh_days-days.ensures
    (filled_from_fn _ _ (λ b. get_or c.fresh_days-days.result (state c.args.book.now greatest_ages b) 0) 16 (λ i y q l k. search rules) c.from_fn.result c.from_fn.ensures.items)
