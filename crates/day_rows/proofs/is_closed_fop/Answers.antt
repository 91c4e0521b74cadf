-- `day_rows::is_closed_fop` meets its contract.
-- Assumes nothing.
use Rattle.day_rows.proofs.Returns.{fop_open, no_fop, no_pair, by_number}
use Rattle.day_rows.proofs.is_closed_fop.Goals as goal

pub returns-then-not-is_reached : goal.returns-then-not-is_reached
returns-then-not-is_reached c = search fop_open

pub returns-then-get : goal.returns-then-get
returns-then-get c = search no_fop

pub returns-then-get-eq0 : goal.returns-then-get-eq0
returns-then-get-eq0 c = search no_pair

pub returns : goal.returns
returns c = search by_number
