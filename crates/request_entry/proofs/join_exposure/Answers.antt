-- `request_entry::join_exposure` meets its contract.
-- Assumes nothing.
use Rattle.request_entry.proofs.Exposures.{row_left, new_exposure}
use Rattle.request_entry.proofs.join_exposure.Goals as goal

pub unwrap-e-requires : goal.unwrap-e-requires
unwrap-e-requires c = search row_left

pub returns-in-Fop : goal.returns-in-Fop
returns-in-Fop c = search new_exposure
