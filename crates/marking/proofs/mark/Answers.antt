-- `marking::mark` meets its contract.
-- Assumes nothing.
use native.Mathlib.Omega.{arith}
use Rattle.eligibility.proofs.Fresh.{sound_aged}
use Rattle.book.specs.State.{state}
use Rattle.facts.proofs.Written.{sound_facts}
use Rattle.marking.proofs.Whole.{mark_whole}
use Rattle.marking.proofs.mark.Goals as goal

pub of-prices-requires : goal.of-prices-requires
of-prices-requires c = sound_aged (state c.args.book.now) (sound_facts (state c.args.book.now) c.requires)

pub give_all_ineligible-gave-requires : goal.give_all_ineligible-gave-requires
give_all_ineligible-gave-requires c =
    (record { long = (omega arith); sound_book = c.requires; securities = c.of-prices.ensures.columns }, c.of-prices.ensures.fresh)

pub returns : goal.returns
returns c =
    let first = c.give_all_ineligible-gave.ensures in
    let second = c.free_all-freed.ensures in
    let third = c.search_all-searched.ensures in
    mark_whole (state c.args.book.now) first.2 first.3 second.2 third.0 second.3 third.1 third.2
