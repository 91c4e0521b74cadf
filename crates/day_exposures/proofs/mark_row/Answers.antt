-- `day_exposures::mark_row` meets its contract.
-- Assumes nothing.
use Rattle.day_exposures.proofs.Marks.{marked_next, marked_same}
use Rattle.day_exposures.proofs.mark_row.Goals as goal

pub returns-in-Some : goal.returns-in-Some
returns-in-Some c = search marked_next

pub returns-in_default : goal.returns-in_default
returns-in_default c = search marked_same
