-- `settlement::settle_pairs` meets its contract: some pairs are tried, and what is left of the list leads to the same end.
-- Assumes nothing.
use mathlib.Core.Path.{◌∙◌}
use native.Mathlib.Omega.{arith}
use Rattle.eligibility.proofs.Fresh.{prices_same}
use Rattle.settlement.proofs.Passes.{within_room, underway_starts, underway_next, underway_done, next_pair, next_place}
use Rattle.settlement.proofs.settle_pairs.Goals as goal

pub loop-key-init : goal.loop-key-init
loop-key-init c = ((_, _, underway_starts _ _ _ c.requires.0), omega arith)

pub settle_pair-total-requires : goal.settle_pair-total-requires
settle_pair-total-requires c =
    let i = c.loop-key.invariant.0 in
    let w = i.2 in
    (w.good, next_pair c.requires.0 (c.as_slice.ensures.value ∙ rw c.from.ensures at c.due_keys-keys.ensures) c.in-Some.ensures i.1 w, within_room (omega (arith, w.few)) c.requires.2 w.within, prices_same w.prices c.requires.1)

pub loop-key-smaller : goal.loop-key-smaller
loop-key-smaller c =
    let i = c.loop-key.invariant.0 in
    let place = next_place c.requires.0 (c.as_slice.ensures.value ∙ rw c.from.ensures at c.due_keys-keys.ensures) c.in-Some.ensures i.1 i.2 in
    omega (arith, place.0, place.1)

pub loop-key-preserved : goal.loop-key-preserved
loop-key-preserved c =
    let i = c.loop-key.invariant.0 in
    let settled = c.settle_pair-total.ensures in
    let next = underway_next c.requires.0 (c.as_slice.ensures.value ∙ rw c.from.ensures at c.due_keys-keys.ensures) c.in-Some.ensures settled.0 settled.1 i.1 i.2 in
    ((_, next.0, next.1), (next_place c.requires.0 (c.as_slice.ensures.value ∙ rw c.from.ensures at c.due_keys-keys.ensures) c.in-Some.ensures i.1 i.2).1)

pub returns : goal.returns
returns c =
    let i = c.loop-key.invariant.0 in
    underway_done c.requires.0 (c.as_slice.ensures.value ∙ rw c.from.ensures at c.due_keys-keys.ensures) c.in_default.ensures i.1 i.2
