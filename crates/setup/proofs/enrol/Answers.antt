-- `setup::enrol` meets its contract.
-- Assumes nothing.
use Rattle.setup.proofs.Ranges.{participant_in_lem}
use borrow.Author.Rules.{rules}
use Rattle.setup.proofs.enrol.Goals as goal

pub get-requires : goal.get-requires
get-requires c =
    let fields = participant_in_lem c.args.legal.now.fields c.requires c.args.legal.now.legal in
    search rules

pub overflow_add-legal : goal.overflow_add-legal
overflow_add-legal c =
    let fields = participant_in_lem c.args.legal.now.fields c.requires c.args.legal.now.legal in
    search rules

pub set-requires : goal.set-requires
set-requires c =
    let fields = participant_in_lem c.args.legal.now.fields c.requires c.args.legal.now.legal in
    search rules

pub set-requires-then-get-eq0 : goal.set-requires-then-get-eq0
set-requires-then-get-eq0 c =
    let fields = participant_in_lem c.args.legal.now.fields c.requires c.args.legal.now.legal in
    search rules

pub set-requires-then-get-eq0-2 : goal.set-requires-then-get-eq0-2
set-requires-then-get-eq0-2 c =
    let fields = participant_in_lem c.args.legal.now.fields c.requires c.args.legal.now.legal in
    search rules

pub overflow_add-legal-else-get-eq0 : goal.overflow_add-legal-else-get-eq0
overflow_add-legal-else-get-eq0 c =
    let fields = participant_in_lem c.args.legal.now.fields c.requires c.args.legal.now.legal in
    search rules

pub set-requires-else-get-eq0 : goal.set-requires-else-get-eq0
set-requires-else-get-eq0 c =
    let fields = participant_in_lem c.args.legal.now.fields c.requires c.args.legal.now.legal in
    search rules

pub set-requires-else-get-eq0-2 : goal.set-requires-else-get-eq0-2
set-requires-else-get-eq0-2 c =
    let fields = participant_in_lem c.args.legal.now.fields c.requires c.args.legal.now.legal in
    search rules

pub set-requires-else-get-eq0-3 : goal.set-requires-else-get-eq0-3
set-requires-else-get-eq0-3 c =
    let fields = participant_in_lem c.args.legal.now.fields c.requires c.args.legal.now.legal in
    search rules
