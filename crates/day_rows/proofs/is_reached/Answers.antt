-- `day_rows::is_reached` meets its contract.
-- Assumes nothing.
use Rattle.day_rows.proofs.Returns.{never_reached, by_day}
use Rattle.day_rows.proofs.is_reached.Goals as goal

pub returns-then-closing-eq0 : goal.returns-then-closing-eq0
returns-then-closing-eq0 c = search never_reached

pub returns : goal.returns
returns c = search by_day
