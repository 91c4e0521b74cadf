-- `sound_pairs::are_terms_alike` meets its contract.
-- Assumes nothing.
use Rattle.book.specs.State.{state}
use Rattle.sound_pairs.proofs.Terms.{by_terms}
use Rattle.sound_pairs.proofs.are_terms_alike.Goals as goal

pub returns : goal.returns
returns c =
    by_terms (state c.args.book.now) c.args.q c.args.j c.requires.0 c.get-giver.ensures c.get-taker.ensures c.get-object.ensures c.get-amount.ensures c.get-settlement.ensures c.get-closing.ensures
