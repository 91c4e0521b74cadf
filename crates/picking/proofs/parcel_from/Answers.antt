-- `picking::parcel_from` meets its contract.
-- Assumes nothing.
use Rattle.baskets.specs.Fresh.{eligible_by}
use Rattle.parcels.specs.Lots.{parcel_to_pick}
use Rattle.picking.specs.Omitted.{but}
use Rattle.securities.specs.Security.{security_at}
use lib.ListN.{get_or}
use mathlib.Core.Path.{◌≡◌, sym, ◌∙◌}
use Rattle.picking.proofs.Picks.{from_eligible, from_other, from_empty}
use Rattle.picking.proofs.parcel_from.Goals as goal
use Rattle.picking.proofs.parcel_from.Goals.{After-parcel_to_pick-p, else-p-ne0-via-then-p-ne0+else-is_allowed, else-p-ne0-via-else-p-ne0}

-- what the account affords of the security
taken : (c : After-parcel_to_pick-p) → c.parcel_to_pick-p.result ≡ parcel_to_pick (security_at c.args.columns.now c.args.i) (get_or c.args.account.now c.args.i 0) c.args.remains
taken c = rw (← c.security_at.ensures) c.parcel_to_pick-p.ensures

pub parcel_to_pick-p-requires : goal.parcel_to_pick-p-requires
parcel_to_pick-p-requires c =
    rw c.security_at.ensures (c.requires.2.within c.args.i c.requires.0, c.requires.1.in_bounds c.args.i c.requires.0)

pub returns-then-is_allowed : goal.returns-then-is_allowed
returns-then-is_allowed c =
    let a = c.args in
    taken (goal.at.returns-then-is_allowed c).After-parcel_to_pick-p ∙ sym (from_eligible a.columns.now a.account.now (but a.omitted (eligible_by a.x a.columns.now)) a.i a.remains (sym c.is_allowed.ensures ∙ c.if-is_allowed.true))

pub returns-else-p-ne0 : goal.returns-else-p-ne0
returns-else-p-ne0 c =
    let a = c.args in
    let test = but a.omitted (eligible_by a.x a.columns.now) in
    elim c.else-p-ne0.branch [
      | else-p-ne0-via-then-p-ne0+else-is_allowed w ↦ sym (from_other a.columns.now a.account.now test a.i a.remains (sym w.is_allowed.ensures ∙ w.if-is_allowed.false))
      | else-p-ne0-via-else-p-ne0 w ↦ from_empty a.columns.now a.account.now test a.i a.remains (taken (goal.at.returns-else-p-ne0 c).After-parcel_to_pick-p) w.if-p-ne0.false
    ]
