-- `setup::price` meets its contract.
-- Assumes nothing.
use Rattle.setup.proofs.Ranges.{price_in_lem}
use borrow.Author.Rules.{rules}
use Rattle.setup.proofs.price.Goals as goal

pub set-requires : goal.set-requires
set-requires c =
    let fields = price_in_lem c.args.legal.now.fields c.requires c.args.legal.now.legal in
    search rules

pub set-requires-2 : goal.set-requires-2
set-requires-2 c =
    let fields = price_in_lem c.args.legal.now.fields c.requires c.args.legal.now.legal in
    search rules

pub set-requires-3 : goal.set-requires-3
set-requires-3 c =
    let fields = price_in_lem c.args.legal.now.fields c.requires c.args.legal.now.legal in
    search rules

pub set-requires-4 : goal.set-requires-4
set-requires-4 c =
    let fields = price_in_lem c.args.legal.now.fields c.requires c.args.legal.now.legal in
    search rules
