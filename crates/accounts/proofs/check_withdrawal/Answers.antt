-- `accounts::check_withdrawal` meets its contract.
-- Assumes nothing.
use Rattle.accounts.proofs.Ranges.{withdrawal_in}
use borrow.Author.Rules.{rules}
use Rattle.accounts.proofs.check_withdrawal.Goals as goal

pub check_account-requires : goal.check_account-requires
check_account-requires c =
    let fields = withdrawal_in c.args.legal.now.fields c.requires c.args.legal.now.legal in
    search rules

pub overflow_mul-p : goal.overflow_mul-p
overflow_mul-p c =
    let fields = withdrawal_in c.args.legal.now.fields c.requires c.args.legal.now.legal in
    search rules

pub overflow_add-p : goal.overflow_add-p
overflow_add-p c =
    let fields = withdrawal_in c.args.legal.now.fields c.requires c.args.legal.now.legal in
    search rules

pub get-requires : goal.get-requires
get-requires c =
    let fields = withdrawal_in c.args.legal.now.fields c.requires c.args.legal.now.legal in
    search rules
