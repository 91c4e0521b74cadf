-- `requests::enter_return` meets its contract.
-- Assumes nothing.
use Rattle.requests.proofs.Legal.{return_entry}
use Rattle.requests.proofs.Capacity.{return_room}
use Rattle.requests.proofs.enter_return.Goals as goal

pub enter-requires : goal.enter-requires
enter-requires c =
    let legal = c.args.back.now.legal in
    (return_entry _ c.requires.0 legal, return_room _ _ c.requires.1 c.requires.0 legal c.requires.2)
