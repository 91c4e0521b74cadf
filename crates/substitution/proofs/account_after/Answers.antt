-- `substitution::account_after` meets its contract.
-- Assumes nothing.
use native.Mathlib.Omega.{arith}
use Rattle.substitution.proofs.Accepting.{ranges_of, exposure_in, security_in, giver_in_lem, account_small}
use Rattle.substitution.proofs.account_after.Goals as goal

pub get-giver-requires : goal.get-giver-requires
get-giver-requires c = exposure_in c.requires

pub overflow_mul-giver : goal.overflow_mul-giver
overflow_mul-giver c = omega (arith, giver_in_lem c.requires c.get-giver.ensures)

pub row_at-account-requires : goal.row_at-account-requires
row_at-account-requires c = omega (arith, giver_in_lem c.requires c.get-giver.ensures)

pub offset_bounds-account-i : goal.offset_bounds-account-i
offset_bounds-account-i c = omega (arith, security_in c.requires)

pub bounds-account-i : goal.bounds-account-i
bounds-account-i c = omega (arith, security_in c.requires)

pub overflow_add-account : goal.overflow_add-account
overflow_add-account c = omega (arith, account_small c.requires c.get-giver.ensures c.row_at-account.ensures, (ranges_of c.requires).nominal_high)

pub bounds-account-i-2 : goal.bounds-account-i-2
bounds-account-i-2 c = omega (arith, security_in c.requires)
