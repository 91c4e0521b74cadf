-- `row_tests::is_zero` meets its contract.
-- Assumes nothing.
use Rattle.row_tests.proofs.Returns.{by_one}
use Rattle.row_tests.proofs.is_zero.Goals as goal

pub returns : goal.returns
returns c = search by_one
