-- `requests::check_cancel` meets its contract.
-- Assumes nothing.
use Rattle.requests.proofs.Codes.{cancel_none}
use Rattle.requests.proofs.check_cancel.Goals as goal

pub returns-in_default : goal.returns-in_default
returns-in_default c = search cancel_none
