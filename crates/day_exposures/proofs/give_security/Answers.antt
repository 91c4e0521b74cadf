-- `day_exposures::give_security` meets its contract.
-- Assumes nothing.
use Rattle.day_exposures.proofs.Back.{security_back_lem, security_left}
use Rattle.day_exposures.proofs.give_security.Goals as goal

pub returns-then-nominal-ne0 : goal.returns-then-nominal-ne0
returns-then-nominal-ne0 c = search security_back_lem

pub returns-else-nominal-ne0 : goal.returns-else-nominal-ne0
returns-else-nominal-ne0 c = search security_left
