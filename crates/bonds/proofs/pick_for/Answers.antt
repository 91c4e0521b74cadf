-- `bonds::pick_for` meets its contract.
-- Assumes nothing.
use Rattle.bonds.proofs.Steps.{picked_for_lem}
use Rattle.bonds.proofs.pick_for.Goals as goal

pub returns : goal.returns
returns c = search picked_for_lem
