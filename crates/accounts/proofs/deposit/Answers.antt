-- `accounts::deposit` meets its contract.
-- Assumes nothing.
use Rattle.accounts.proofs.Ranges.{deposit_in}
use borrow.Author.Rules.{rules}
use Rattle.accounts.proofs.deposit.Goals as goal

pub overflow_mul-k : goal.overflow_mul-k
overflow_mul-k c =
    let fields = deposit_in c.args.legal.now.fields c.requires.0 c.args.legal.now.legal in
    search rules

pub overflow_add-k : goal.overflow_add-k
overflow_add-k c =
    let fields = deposit_in c.args.legal.now.fields c.requires.0 c.args.legal.now.legal in
    search rules

pub get-x-requires : goal.get-x-requires
get-x-requires c =
    let fields = deposit_in c.args.legal.now.fields c.requires.0 c.args.legal.now.legal in
    search rules

pub set-requires : goal.set-requires
set-requires c =
    let fields = deposit_in c.args.legal.now.fields c.requires.0 c.args.legal.now.legal in
    search rules
