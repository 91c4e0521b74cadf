-- `setup::check_price` meets its contract.
-- Assumes nothing.
use Rattle.setup.proofs.Ranges.{price_in_lem}
use borrow.Author.Rules.{rules}
use Rattle.setup.proofs.check_price.Goals as goal

pub get-lot-requires : goal.get-lot-requires
get-lot-requires c =
    let fields = price_in_lem c.args.legal.now.fields c.requires c.args.legal.now.legal in
    search rules
