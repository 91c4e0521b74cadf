-- `exposure_search::has_exposure` meets its contract.
-- Assumes nothing.
use Rattle.exposure_search.proofs.Keys.{by_hint}
use Rattle.exposure_search.proofs.has_exposure.Goals as goal

pub returns-then-has_key : goal.returns-then-has_key
returns-then-has_key c = search by_hint
