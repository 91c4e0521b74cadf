-- `pair_settlement::settle_fop` meets its contract: the bonds picked for the rest go into the exposure, which grows by what settles.
-- Assumes nothing.
use mathlib.Core.Path.{◌≡◌, refl, sym, ◌∙◌}
use Prim.Native.Nat.{◌<◌, ◌≤◌}
use native.Mathlib.Omega.{arith}
use Rattle.bond_laws.proofs.Lots.{pick_value}
use Rattle.bonds.proofs.Ready.{good_pickable, pick_pledges}
use Rattle.bonds.specs.Moves.{Pledging}
use Rattle.book.specs.Layout.{in_use}
use Rattle.book.specs.State.{state}
use Rattle.settlement_laws.specs.Ways.{fop_amount, fop_way}
use Rattle.rules.specs.Stock.{eligible_for}
use Rattle.settlement_laws.proofs.Finding.{exposure_used}
use Rattle.settlement_laws.proofs.Settling.{fop_within, fop_below}
use Rattle.pair_settlement.proofs.Amounts.{fop_waits, fop_amount_lem, fop_done, none_settles}
use Rattle.pair_settlement.proofs.Pairs.{pair_fields, rest_le, settleable, exposure_le, pledging_noted}
use Rattle.pair_settlement.proofs.settle_fop.Goals as goal
use Rattle.pair_settlement.proofs.settle_fop.Goals.{After-amount_for-x, After-exposure_of_fop-e, After-get-exposure}

-- the exposure that the code finds is one of the 64, used, and at most 10^13
target_below : (c : After-exposure_of_fop-e) → c.exposure_of_fop-e.result < 64
target_below c = rw c.exposure_of_fop-e.ensures (fop_below c.requires.0 c.requires.1)

target-used : (c : After-exposure_of_fop-e) → state c.args.book.now in_use c.exposure_of_fop-e.result ≡ 1
target-used c =
    rw c.exposure_of_fop-e.ensures (exposure_used (state c.args.book.now) c.args.i (fop_below c.requires.0 c.requires.1))

target-le : (c : After-get-exposure) → c.get-exposure.result ≤ 10000000000000
target-le c =
    rw c.get-exposure.ensures (exposure_le c.requires.0 c.exposure_of_fop-e.result (rw c.exposure_of_fop-e.ensures (fop_below c.requires.0 c.requires.1))
    (rw c.exposure_of_fop-e.ensures (exposure_used (state c.args.book.now) c.args.i (fop_below c.requires.0 c.requires.1))))

-- what the code settles is the definition's amount, and at most the rest
settles : (c : After-amount_for-x) → c.amount_for-x.result ≡ fop_amount (state c.args.book.now) c.args.i
settles c =
    fop_amount_lem (state c.args.book.now) c.args.i c.exposure_of_fop-e.ensures c.get-exposure.ensures c.rest_of-rest.ensures c.pick_for-outcome.ensures c.if-exposure-rest-gt-GREATEST_EXPOSURE.false c.amount_for-x.ensures

settles-le : (c : After-amount_for-x) → c.amount_for-x.result ≤ c.rest_of-rest.result
settles-le c =
    rw (settles c, c.rest_of-rest.ensures) (fop_within (state c.args.book.now) c.args.i)

pub exposure_of_fop-e-requires : goal.exposure_of_fop-e-requires
exposure_of_fop-e-requires c =
    (c.requires.1.below, fop_below c.requires.0 c.requires.1)

pub get-exposure-requires : goal.get-exposure-requires
get-exposure-requires c = target_below c

pub rest_of-rest-requires : goal.rest_of-rest-requires
rest_of-rest-requires c =
    (c.requires.1.below, (pair_fields c.requires.0 c.requires.1).settled)

pub overflow_add-exposure : goal.overflow_add-exposure
overflow_add-exposure c =
    omega (arith, target-le (goal.at.overflow_add-exposure c).After-get-exposure, c.rest_of-rest.ensures, rest_le c.requires.0 c.requires.1)

pub returns-then-exposure-rest-gt-GREATEST_EXPOSURE : goal.returns-then-exposure-rest-gt-GREATEST_EXPOSURE
returns-then-exposure-rest-gt-GREATEST_EXPOSURE c =
    let st = state c.args.book.now in
    let none = fop_waits st c.args.i c.exposure_of_fop-e.ensures c.get-exposure.ensures c.rest_of-rest.ensures c.if-exposure-rest-gt-GREATEST_EXPOSURE.true in
    (none, none_settles fop_way st c.args.i refl none)

pub pick_for-outcome-requires : goal.pick_for-outcome-requires
pick_for-outcome-requires c =
    (good_pickable (state c.args.book.now) c.exposure_of_fop-e.result c.requires.0 (target_below (goal.at.pick_for-outcome-requires c).After-exposure_of_fop-e) (target-used (goal.at.pick_for-outcome-requires c).After-exposure_of_fop-e), c.requires.2)

pub amount_for-x-requires : goal.amount_for-x-requires
amount_for-x-requires c =
    let st = state c.args.book.now in
    (c.requires.1.below, rw c.pick_for-outcome.ensures (pick_value st c.exposure_of_fop-e.result (eligible_for st c.exposure_of_fop-e.result) c.rest_of-rest.result))

pub returns-then-x-eq0 : goal.returns-then-x-eq0
returns-then-x-eq0 c =
    let x = settles (goal.at.returns-then-x-eq0 c).After-amount_for-x in
    (sym c.if-x-eq0.true ∙ x, none_settles fop_way (state c.args.book.now) c.args.i c.if-x-eq0.true x)

pub overflow_add-exposure-2 : goal.overflow_add-exposure-2
overflow_add-exposure-2 c =
    omega (arith, settles-le (goal.at.overflow_add-exposure-2 c).After-amount_for-x, target-le (goal.at.overflow_add-exposure-2 c).After-get-exposure)

pub note_settled-requires : goal.note_settled-requires
note_settled-requires c =
    (settleable c.requires.0 c.requires.1 c.amount_for-x.result (omega (arith, settles-le (goal.at.note_settled-requires c).After-amount_for-x, c.rest_of-rest.ensures)), target_below (goal.at.note_settled-requires c).After-exposure_of_fop-e)

pub pledge-requires : goal.pledge-requires
pledge-requires c =
    let st = state c.args.book.now in
    let target = c.exposure_of_fop-e.result in
    let x = c.amount_for-x.result in
    let picked : Pledging st target c.pick_for-outcome.result.nominals = rw c.pick_for-outcome.ensures (pick_pledges st target c.requires.0 (target_below (goal.at.pledge-requires c).After-exposure_of_fop-e) (target-used (goal.at.pledge-requires c).After-exposure_of_fop-e) (eligible_for st target) c.rest_of-rest.result) in
    rw c.note_settled.ensures (pledging_noted st c.args.i x target _ picked)

pub returns : goal.returns
returns c =
    let x = settles (goal.at.returns c).After-amount_for-x in
    (x, fop_done (state c.args.book.now) c.args.i c.exposure_of_fop-e.ensures c.get-exposure.ensures c.rest_of-rest.ensures c.pick_for-outcome.ensures x c.if-x-eq0.false c.note_settled.ensures c.pledge.ensures)
