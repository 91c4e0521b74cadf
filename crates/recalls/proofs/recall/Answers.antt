-- `recalls::recall` meets its contract.
-- Assumes nothing.
use native.Mathlib.Omega.{arith}
use Rattle.book.specs.State.{state}
use Rattle.recalls.proofs.Returns.{ranges, accepted_recalling, one_gives, found_pledges, recall_whole}
use borrow.Author.Rules.{rules}
use Rattle.recalls.proofs.recall.Goals as goal

pub substitutes-found-requires : goal.substitutes-found-requires
substitutes-found-requires c =
    (accepted_recalling c.args.book.now c.args.record.now (omega arith) c.requires.0 c.requires.1 c.requires.2, c.columns-columns.ensures)

pub offset_bounds-one-i : goal.offset_bounds-one-i
offset_bounds-one-i c =
    let fields = ranges c.args.record.now c.requires.0 in
    search rules

pub bounds-one-i : goal.bounds-one-i
bounds-one-i c =
    let fields = ranges c.args.record.now c.requires.0 in
    search rules

pub give_back-requires : goal.give_back-requires
give_back-requires c =
    (one_gives (accepted_recalling c.args.book.now c.args.record.now (omega arith) c.requires.0 c.requires.1 c.requires.2) c.fits-book)

pub pledge-requires : goal.pledge-requires
pledge-requires c =
    (found_pledges (accepted_recalling c.args.book.now c.args.record.now (omega arith) c.requires.0 c.requires.1 c.requires.2) c.fits-book c.give_back.ensures c.substitutes-found.ensures)

pub returns : goal.returns
returns c =
    recall_whole (state c.args.book.now) c.args.record.now.fields c.give_back.ensures c.substitutes-found.ensures c.pledge.ensures
