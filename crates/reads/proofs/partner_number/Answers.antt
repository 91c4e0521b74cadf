-- `reads::partner_number` meets its contract.
-- Assumes nothing.
use Rattle.reads.proofs.Returns.{partner_near}
use Rattle.reads.proofs.partner_number.Goals as goal

pub get-requires : goal.get-requires
get-requires c = search (partner_near, c.in-Some.ensures)
