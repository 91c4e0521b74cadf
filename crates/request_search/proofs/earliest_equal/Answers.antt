-- `request_search::earliest_equal` meets its contract.
-- Assumes nothing.
use borrow.Author.Rules.{rules}
use Rattle.book.specs.Layout.{numbers}
use Rattle.book.specs.State.{state}
use Rattle.rules.specs.Requesting.{is_equal, earliest_equal}
use Rattle.request_search.proofs.LeastBy.{takes_below, picks_least}
use Rattle.request_search.proofs.earliest_equal.Goals as goal

pub min_by_key-requires-clause-callable : goal.min_by_key-requires-clause-callable
min_by_key-requires-clause-callable c =
    takes_below _ (is_equal (state c.args.book.now) c.args.kind c.args.fields.now) _ c.filter.ensures.source c.filter.ensures.closure (λ x b q k. search rules) _ (λ x q l. search rules)

pub returns : goal.returns
unfolding earliest_equal
returns c =
    picks_least _ (is_equal (state c.args.book.now) c.args.kind c.args.fields.now) _ c.filter.ensures.source c.filter.ensures.closure (λ x b q k. search rules) _ (state c.args.book.now numbers) _ c.min_by_key.ensures.ran (λ x k q h. search rules)
