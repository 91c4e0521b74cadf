-- `accounts::withdraw` meets its contract.
-- Assumes nothing.
use Prim.Native.Nat.{◌+◌, ◌*◌}
use native.Mathlib.Omega.{arith}
use lib.ListN.{get_or}
use Rattle.accounts.proofs.Ranges.{withdrawal_in, account_small}
use borrow.Author.Rules.{rules}
use Rattle.accounts.proofs.withdraw.Goals as goal

pub overflow_mul-k : goal.overflow_mul-k
overflow_mul-k c =
    let fields = withdrawal_in c.args.legal.now.fields c.requires.0 c.args.legal.now.legal in
    search rules

pub overflow_add-k : goal.overflow_add-k
overflow_add-k c =
    let fields = withdrawal_in c.args.legal.now.fields c.requires.0 c.args.legal.now.legal in
    search rules

pub get-x-requires : goal.get-x-requires
get-x-requires c =
    let fields = withdrawal_in c.args.legal.now.fields c.requires.0 c.args.legal.now.legal in
    search rules

pub set-requires : goal.set-requires
set-requires c =
    let fields = withdrawal_in c.args.legal.now.fields c.requires.0 c.args.legal.now.legal in
    let small =
    account_small c.args.book.now (omega arith) c.fits-book (64 * get_or c.args.legal.now.fields 0 0 + get_or c.args.legal.now.fields 1 0)
    (omega arith)
    in
    search rules
