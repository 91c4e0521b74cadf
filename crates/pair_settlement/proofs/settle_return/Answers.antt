-- `pair_settlement::settle_return` meets its contract: the exposure that the return names is lowered, then freed.
-- Assumes nothing.
use mathlib.Core.Path.{◌≡◌, sym, ◌∙◌}
use Prim.Native.Nat.{◌-◌}
use native.Mathlib.Omega.{arith}
use Rattle.bonds.proofs.Ready.{good_freeable}
use Rattle.bonds.specs.Moves.{Freeable}
use Rattle.book.specs.State.{state}
use Rattle.rules.specs.Settlement.{return_amount}
use Rattle.settlement_laws.specs.Ways.{return_way}
use Rattle.settlement_laws.proofs.Settling.{return_names_lem}
use Rattle.pair_settlement.proofs.Amounts.{return_amount_lem, return_done, none_settles}
use Rattle.pair_settlement.proofs.Pairs.{pair_fields, settleable, columns_noted, freeable_noted}
use Rattle.pair_settlement.proofs.settle_return.Goals as goal
use Rattle.pair_settlement.proofs.settle_return.Goals.{After-min-x}

-- what the code settles is the definition's amount
settles : (c : After-min-x) → c.min-x.result ≡ return_amount (state c.args.book.now) c.args.i
settles c =
    return_amount_lem (state c.args.book.now) c.args.i c.get-e.ensures c.get-exposure.ensures c.rest_of.ensures c.min-x.ensures

pub get-exposure-requires : goal.get-exposure-requires
get-exposure-requires c =
    omega (arith, c.get-e.ensures, (return_names_lem c.requires.0 c.requires.1).exposure_below)

pub rest_of-requires : goal.rest_of-requires
rest_of-requires c =
    (c.requires.1.below, (pair_fields c.requires.0 c.requires.1).settled)

pub returns-then-x-eq0 : goal.returns-then-x-eq0
returns-then-x-eq0 c =
    let x = settles (goal.at.returns-then-x-eq0 c).After-min-x in
    (sym c.if-x-eq0.true ∙ x, none_settles return_way (state c.args.book.now) c.args.i c.if-x-eq0.true x)

pub note_settled-requires : goal.note_settled-requires
note_settled-requires c =
    let row = return_names_lem c.requires.0 c.requires.1 in
    (settleable c.requires.0 c.requires.1 c.min-x.result (omega (arith, c.min-x.ensures, c.rest_of.ensures)), omega (arith, c.get-e.ensures, row.exposure_below))

pub free_down-requires : goal.free_down-requires
free_down-requires c =
    let row = return_names_lem c.requires.0 c.requires.1 in
    let before = state c.args.book.now in
    let x = c.min-x.result in
    let whole : Freeable before c.get-e.result = rw c.get-e.ensures (good_freeable before _ c.requires.0 row.exposure_below row.exposure_used) in
    (rw c.note_settled.ensures (freeable_noted before c.args.i x c.get-e.result (c.get-exposure.result - x) whole), rw (c.note_settled.ensures, columns_noted before c.args.i x c.get-e.result (c.get-exposure.result - x)) c.requires.2)

pub returns : goal.returns
returns c =
    let x = settles (goal.at.returns c).After-min-x in
    (x, return_done (state c.args.book.now) c.args.i c.get-e.ensures c.get-exposure.ensures x c.if-x-eq0.false c.note_settled.ensures c.free_down.ensures)
