-- `row_tests::is_same` meets its contract.
-- Assumes nothing.
use Rattle.row_tests.proofs.Returns.{by_two}
use Rattle.row_tests.proofs.is_same.Goals as goal

pub returns : goal.returns
returns c = search by_two
