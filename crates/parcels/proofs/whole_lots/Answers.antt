-- `parcels::whole_lots` meets its contract: the whole lots are within the nominal.
-- Assumes nothing.
use Prim.Native.Nat.{◌/◌}
use native.Mathlib.Nat.{le_refl}
use Rattle.parcels.proofs.Parcels.{lots_le}
use Rattle.parcels.proofs.whole_lots.Goals as goal

pub returns : goal.returns
returns c = (c.from.ensures, rw c.from.ensures (lots_le c.requires.1 (le_refl (c.args.nominal / c.args.lot))))
