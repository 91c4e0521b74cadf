-- `setup::make_basket` meets its contract.
-- Assumes nothing.
use Rattle.setup.proofs.Ranges.{basket_in_lem}
use borrow.Author.Rules.{rules}
use Rattle.setup.proofs.make_basket.Goals as goal

pub set-requires : goal.set-requires
set-requires c =
    let fields = basket_in_lem c.args.legal.now.fields c.requires c.args.legal.now.legal in
    search rules

pub set-requires-2 : goal.set-requires-2
set-requires-2 c =
    let fields = basket_in_lem c.args.legal.now.fields c.requires c.args.legal.now.legal in
    search rules
