-- `exposure_search::put_hint` meets its contract.
-- Assumes nothing.
use Rattle.exposure_search.proofs.Hints.{hint_put, hint_left}
use Rattle.exposure_search.proofs.put_hint.Goals as goal

pub returns-then-get-eq1 : goal.returns-then-get-eq1
returns-then-get-eq1 c = search hint_put

pub returns-else-get-eq1 : goal.returns-else-get-eq1
returns-else-get-eq1 c = search hint_left
