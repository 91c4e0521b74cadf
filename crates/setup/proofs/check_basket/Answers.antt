-- `setup::check_basket` meets its contract.
-- Assumes nothing.
use Rattle.setup.proofs.Ranges.{basket_in_lem}
use borrow.Author.Rules.{rules}
use Rattle.setup.proofs.check_basket.Goals as goal

pub get-requires : goal.get-requires
get-requires c =
    let fields = basket_in_lem c.args.legal.now.fields c.requires c.args.legal.now.legal in
    search rules
