-- `requests::enter_fop` meets its contract.
-- Assumes nothing.
use Rattle.requests.proofs.Legal.{fop_entry}
use Rattle.requests.proofs.Capacity.{fop_room}
use Rattle.requests.proofs.enter_fop.Goals as goal

pub enter-requires : goal.enter-requires
enter-requires c =
    let legal = c.args.fop.now.legal in
    (fop_entry _ c.requires.0 legal, fop_room _ _ c.requires.1 c.requires.0 legal c.requires.2)
