-- `picking::free` meets its contract: the securities from `i` on are done.
-- Assumes nothing.
use mathlib.Core.Path.{◌≡◌, ◌∙◌}
use Prim.Native.Nat.{suc, ◌-◌}
use native.Mathlib.Omega.{arith}
use Rattle.picking.specs.Free.{freed_above}
use Rattle.picking.proofs.Picks.{counts}
use Rattle.picking.proofs.Frees.{Freeing, back_part, loss_le, step_is, freeing, begins, first_le}
use Rattle.picking.proofs.free.Goals as goal
use Rattle.picking.proofs.free.Goals.{At-loop-i}

-- the state in the loop is on the way of the definition
on-the-way : (l : At-loop-i) → Freeing l.args.columns.now l.args.position.now (64 - l.loop-i.i) (record { nominals = l.loop-i.nominals; left = l.loop-i.left; count = l.loop-i.count })
on-the-way l =
    let a = l.args in
    rw l.loop-i.invariant.1 (freeing a.columns.now a.position.now a.exposure (64 - l.loop-i.i) (omega arith))

pub loop-i-init : goal.loop-i-init
loop-i-init c =
    let a = c.args in (
      first_le c.worth_of-left.result a.exposure c.first_to_free-i.ensures,
      begins a.columns.now a.position.now a.exposure c.worth_of-left.ensures c.first_to_free-i.ensures,
    )

pub parcel_back-p-requires : goal.parcel_back-p-requires
parcel_back-p-requires c =
    let a = c.args in
    (omega arith, c.requires.0, c.requires.1, back_part a.columns.now a.position.now a.exposure (c.loop-i.i - 1) (64 - c.loop-i.i) _ (on-the-way (goal.at.parcel_back-p-requires c).At-loop-i) (omega arith))

pub overflow_sub-left : goal.overflow_sub-left
overflow_sub-left c =
    let a = c.args in
    loss_le a.columns.now a.position.now a.exposure (c.loop-i.i - 1) (64 - c.loop-i.i) _ (on-the-way (goal.at.overflow_sub-left c).At-loop-i) (omega arith) c.parcel_back-p.ensures

pub overflow_add-count : goal.overflow_add-count
overflow_add-count c = omega (arith, (on-the-way (goal.at.overflow_add-count c).At-loop-i).few, c.from-count.ensures ∙ counts _)

pub loop-i-preserved : goal.loop-i-preserved
unfolding freed_above
loop-i-preserved c =
    let a = c.args in
    let next : 64 - (c.loop-i.i - 1) ≡ suc (64 - c.loop-i.i) = omega (arith, c.loop-i.invariant.0) in
    let at : 63 - (64 - c.loop-i.i) ≡ c.loop-i.i - 1 = omega (arith, c.loop-i.invariant.0) in (
      omega arith,
      rw (next, at, ← c.loop-i.invariant.1, c.from-count.ensures, counts c.parcel_back-p.result.nominal)
          (step_is a.columns.now a.position.now a.exposure (c.loop-i.i - 1) (64 - c.loop-i.i) _ (on-the-way (goal.at.loop-i-preserved c).At-loop-i) (omega arith) c.parcel_back-p.ensures),
    )

pub returns : goal.returns
returns c =
    let e : 64 - c.loop-i.i ≡ 64 = omega arith in
    rw e at c.loop-i.invariant.1
