-- `picking::pick` meets its contract: the outcome is that of the securities below `i`.
-- Assumes nothing.
use mathlib.Core.Path.{◌≡◌}
use Prim.Native.Nat.{◌≤◌}
use Rattle.baskets.specs.Fresh.{eligible_by}
use Rattle.picking.specs.Pick.{picked_below}
use Rattle.picking.specs.Omitted.{but}
use Rattle.picking.specs.declared.Outcome.{Outcome}
use Rattle.picking.proofs.pick.Given as goal

abbrev pub invariant-loop-i : goal.invariant-loop-i
invariant-loop-i l = (l.i ≤ 64) × (◌≡◌ {A = Outcome} (record { nominals = l.nominals; value = l.value; count = l.count }) (picked_below l.columns l.account (but l.omitted (eligible_by l.x l.columns)) l.amount l.i))
