-- `recalls::codes::check_names` meets its contract.
-- Assumes nothing.
use Rattle.recalls.proofs.Returns.{ranges, no_lot, part_lot, no_giver, all_known}
use borrow.Author.Rules.{rules}
use Rattle.recalls.proofs.codes.check_names.Goals as goal

pub get-lot-requires : goal.get-lot-requires
get-lot-requires c =
    let fields = ranges c.args.record.now c.requires in
    search rules

pub returns-then-lot-eq0 : goal.returns-then-lot-eq0
returns-then-lot-eq0 c = search no_lot

pub returns-then-record-lot-ne0 : goal.returns-then-record-lot-ne0
returns-then-record-lot-ne0 c = search part_lot

pub get-requires : goal.get-requires
get-requires c =
    let fields = ranges c.args.record.now c.requires in
    search rules

pub returns-then-get-eq0 : goal.returns-then-get-eq0
returns-then-get-eq0 c = search no_giver

pub returns : goal.returns
returns c = search all_known
