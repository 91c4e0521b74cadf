-- `request_codes::check_exposure` meets its contract.
-- Assumes nothing.
use Rattle.request_codes.proofs.Exposures.{none_free}
use Rattle.request_codes.proofs.check_exposure.Goals as goal

pub returns-then-does_pair_now : goal.returns-then-does_pair_now
returns-then-does_pair_now c = search none_free
