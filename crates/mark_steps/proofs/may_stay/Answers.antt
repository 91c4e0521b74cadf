-- `mark_steps::may_stay` meets its contract.
-- Assumes nothing.
use Rattle.mark_steps.proofs.Returns.{none_held, some_held}
use Rattle.mark_steps.proofs.may_stay.Goals as goal

pub returns-then-get-eq0 : goal.returns-then-get-eq0
returns-then-get-eq0 c = search none_held

pub returns-else-get-eq0 : goal.returns-else-get-eq0
returns-else-get-eq0 c = search some_held
