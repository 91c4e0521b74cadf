-- `day_rows::is_exposure_closed` meets its contract.
-- Assumes nothing.
use Rattle.day_rows.proofs.Returns.{exposure_unused, by_reached}
use Rattle.day_rows.proofs.is_exposure_closed.Goals as goal

pub returns-then-get-ne1 : goal.returns-then-get-ne1
returns-then-get-ne1 c = search exposure_unused

pub returns : goal.returns
returns c = search by_reached
