-- `day_rows::is_done` meets its contract.
-- Assumes nothing.
use Rattle.day_rows.proofs.Returns.{done_unused, done_whole, done_ended, done_not, by_settlement}
use Rattle.day_rows.proofs.is_done.Goals as goal

pub returns-then-get-eq0 : goal.returns-then-get-eq0
returns-then-get-eq0 c = search done_unused

pub returns-then-get : goal.returns-then-get
returns-then-get c = search done_whole

pub returns-then-get-eq1 : goal.returns-then-get-eq1
returns-then-get-eq1 c = search done_ended

pub returns-then-get-ne0 : goal.returns-then-get-ne0
returns-then-get-ne0 c = search done_not

pub returns : goal.returns
returns c = search by_settlement
