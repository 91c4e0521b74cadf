-- `replay::read_code` meets its contract.
-- Assumes nothing.
use native.Mathlib.Omega.{arith}
use Rattle.replay.proofs.Stream.{account_code_lem, position_code, exposure_code, request_code, basket_code}
use Rattle.replay.proofs.read_code.Goals as goal

pub returns-in-0 : goal.returns-in-0
returns-in-0 c = account_code_lem _ _ _ _ (omega arith) c.reads_account.ensures

pub returns-in-2 : goal.returns-in-2
returns-in-2 c = search position_code

pub returns-in-3 : goal.returns-in-3
returns-in-3 c = search exposure_code

pub returns-in-4 : goal.returns-in-4
returns-in-4 c = search request_code

pub returns-in_default : goal.returns-in_default
returns-in_default c = basket_code _ _ _ _ (omega arith) (λ e. omega arith) (λ e. omega arith) (λ e. omega arith) c.reads_basket.ensures
