-- `recalls::codes::check_holds` meets its contract.
-- Assumes nothing.
use Rattle.recalls.proofs.Returns.{ranges, no_exposure, other_giver, too_little, enough_held}
use borrow.Author.Rules.{rules}
use Rattle.recalls.proofs.codes.check_holds.Goals as goal

pub get-requires : goal.get-requires
get-requires c =
    let fields = ranges c.args.record.now c.requires in
    search rules

pub returns-then-get-ne1 : goal.returns-then-get-ne1
returns-then-get-ne1 c = search no_exposure

pub get-requires-2 : goal.get-requires-2
get-requires-2 c =
    let fields = ranges c.args.record.now c.requires in
    search rules

pub returns-then-get-record : goal.returns-then-get-record
returns-then-get-record c = search other_giver

pub overflow_mul-e : goal.overflow_mul-e
overflow_mul-e c =
    let fields = ranges c.args.record.now c.requires in
    search rules

pub overflow_add-e : goal.overflow_add-e
overflow_add-e c =
    let fields = ranges c.args.record.now c.requires in
    search rules

pub get-requires-3 : goal.get-requires-3
get-requires-3 c =
    let fields = ranges c.args.record.now c.requires in
    search rules

pub returns-then-get-record-2 : goal.returns-then-get-record-2
returns-then-get-record-2 c = search too_little

pub returns : goal.returns
returns c = search enough_held
