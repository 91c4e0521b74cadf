-- `accounts::check_deposit` meets its contract.
-- Assumes nothing.
use Rattle.accounts.proofs.Ranges.{deposit_in}
use borrow.Author.Rules.{rules}
use Rattle.accounts.proofs.check_deposit.Goals as goal

pub check_account-requires : goal.check_account-requires
check_account-requires c =
    let fields = deposit_in c.args.legal.now.fields c.requires c.args.legal.now.legal in
    search rules

pub holding_of-requires : goal.holding_of-requires
holding_of-requires c =
    let fields = deposit_in c.args.legal.now.fields c.requires c.args.legal.now.legal in
    search rules

pub overflow_add-holding_of : goal.overflow_add-holding_of
overflow_add-holding_of c =
    let fields = deposit_in c.args.legal.now.fields c.requires c.args.legal.now.legal in
    search rules
