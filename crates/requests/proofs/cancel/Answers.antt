-- `requests::cancel` meets its contract.
-- Assumes nothing.
use Rattle.requests.proofs.Capacity.{some_own, cancel_pair}
use Rattle.requests.proofs.Steps.{cancelled_silent, cancelled_alone, cancelled_paired}
use Rattle.requests.proofs.cancel.Goals as goal

pub unwrap-i-requires : goal.unwrap-i-requires
unwrap-i-requires c = search some_own

pub cancel_paired-requires : goal.cancel_paired-requires
cancel_paired-requires c = search (cancel_pair, c.in-Some.ensures)

pub returns-in-None : goal.returns-in-None
returns-in-None c = (search cancelled_silent, search (cancelled_alone, c.in-None.ensures))

pub returns-in-Some : goal.returns-in-Some
returns-in-Some c = (search cancelled_silent, search (cancelled_paired, c.in-Some.ensures))
