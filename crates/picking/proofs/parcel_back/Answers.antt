-- `picking::parcel_back` meets its contract.
-- Assumes nothing.
use Rattle.picking.proofs.parcel_back.Goals as goal

pub parcel_to_free-requires : goal.parcel_to_free-requires
parcel_to_free-requires c =
    rw c.security_at.ensures (c.requires.2.within c.args.i c.requires.0, c.requires.3, c.requires.1.in_bounds c.args.i c.requires.0)

pub returns : goal.returns
returns c = rw (c.parcel_to_free.ensures, c.security_at.ensures)
