-- `day_exposures::is_idle` meets its contract.
-- Assumes nothing.
use Rattle.day_exposures.proofs.Marks.{idle_unmarked}
use Rattle.day_exposures.proofs.Returns.{idle_unused, idle_amount, by_rows}
use Rattle.day_exposures.proofs.is_idle.Goals as goal

pub returns-then-get-ne1 : goal.returns-then-get-ne1
returns-then-get-ne1 c = search idle_unused

pub returns-then-get-ne0 : goal.returns-then-get-ne0
returns-then-get-ne0 c = search idle_amount

pub returns-then-not-marks-slot : goal.returns-then-not-marks-slot
returns-then-not-marks-slot c = search idle_unmarked

pub returns : goal.returns
returns c = search by_rows
