-- `picking::pick` meets its contract: the outcome is that of the securities below `i`.
-- Assumes nothing.
use mathlib.Core.Path.{◌≡◌, refl, ap, ◌∙◌}
use Prim.Native.Nat.{◌-◌, ◌≤◌}
use native.Mathlib.Omega.{arith}
use Rattle.baskets.specs.Fresh.{eligible_by}
use Rattle.picking.specs.Pick.{picked_below}
use Rattle.picking.specs.Omitted.{but}
use Rattle.picking.specs.declared.Outcome.{Outcome}
use Rattle.picking.proofs.Picks.{counts, parcel_worth, picked_value, picked_count, picked_next}
use Rattle.picking.proofs.pick.Goals as goal
use Rattle.picking.proofs.pick.Goals.{At-loop-i}

-- what the invariant says of the value and the count
found : (l : At-loop-i) → l.loop-i.value ≤ l.args.amount
found l =
    let a = l.args in
    rw (ap (λ (o : Outcome). o.value) l.loop-i.invariant.1) (picked_value a.columns.now a.account.now (but a.omitted (eligible_by a.x a.columns.now)) a.amount l.loop-i.i)

counted : (l : At-loop-i) → l.loop-i.count ≤ l.loop-i.i
counted l =
    let a = l.args in
    rw (ap (λ (o : Outcome). o.count) l.loop-i.invariant.1) (picked_count a.columns.now a.account.now (but a.omitted (eligible_by a.x a.columns.now)) a.amount l.loop-i.i)

pub loop-i-init : goal.loop-i-init
unfolding picked_below
loop-i-init c = (omega arith, refl)

pub overflow_sub-amount : goal.overflow_sub-amount
overflow_sub-amount c = found (goal.at.overflow_sub-amount c).At-loop-i

pub overflow_add-value : goal.overflow_add-value
overflow_add-value c =
    let a = c.args in
    let w = parcel_worth a.columns.now a.account.now (but a.omitted (eligible_by a.x a.columns.now)) c.loop-i.i (a.amount - c.loop-i.value) in
    omega (arith, found (goal.at.overflow_add-value c).At-loop-i, rw (← c.parcel_from-p.ensures) at w)

pub overflow_add-count : goal.overflow_add-count
overflow_add-count c = omega (arith, counted (goal.at.overflow_add-count c).At-loop-i, c.from-count.ensures ∙ counts _)

pub loop-i-preserved : goal.loop-i-preserved
loop-i-preserved c =
    let a = c.args in
    (omega arith, rw (c.from-count.ensures, counts c.parcel_from-p.result.nominal) (picked_next a.columns.now a.account.now (but a.omitted (eligible_by a.x a.columns.now)) a.amount c.loop-i.i c.loop-i.invariant.1 c.parcel_from-p.ensures))

pub returns : goal.returns
returns c =
    let e : c.loop-i.i ≡ 64 = omega arith in
    rw e at c.loop-i.invariant.1
