-- `mark_steps::give_ineligible` meets its contract: where all may stay nothing moves, and else all that is not eligible does.
-- Assumes nothing.
use mathlib.Core.Path.{refl}
use Rattle.rules.specs.Marking.{ineligible_back}
use Rattle.mark_steps.proofs.Steps.{unused_step, ineligible_gives, stays_step, gives_step}
use Rattle.bonds.proofs.Rows.{bounded, basket_below}
use Rattle.mark_steps.proofs.give_ineligible.Goals as goal

pub returns-then-get-ne1 : goal.returns-then-get-ne1
returns-then-get-ne1 c =
    unused_step c.requires.0 ineligible_back c.get.ensures c.if-get-ne1.true

pub eligibility_of-x-requires : goal.eligibility_of-x-requires
eligibility_of-x-requires c =
    (c.requires.1, basket_below c.requires.0 c.requires.1 c.get.ensures c.if-get-ne1.false, c.requires.2)

pub may_all_stay-requires : goal.may_all_stay-requires
may_all_stay-requires c =
    (c.requires.1, bounded c.requires.0)

pub returns-then-may_all_stay : goal.returns-then-may_all_stay
returns-then-may_all_stay c =
    let m = c.requires in
    stays_step m.0 m.1 c.fits-book c.get.ensures c.if-get-ne1.false refl c.eligibility_of-x.ensures refl c.may_all_stay.ensures c.if-may_all_stay.true

pub ineligible-nominals-requires : goal.ineligible-nominals-requires
ineligible-nominals-requires c = bounded c.requires.0

pub give_back-requires : goal.give_back-requires
give_back-requires c =
    let m = c.requires in
    ineligible_gives m.0 m.1 c.fits-book c.get.ensures c.if-get-ne1.false c.row_at-position.ensures c.eligibility_of-x.ensures c.ineligible-nominals.ensures

pub returns : goal.returns
returns c =
    let m = c.requires in
    gives_step m.0 m.1 c.fits-book c.get.ensures c.if-get-ne1.false c.row_at-position.ensures c.eligibility_of-x.ensures c.ineligible-nominals.ensures
    (rw c.row_at-position.ensures c.may_all_stay.ensures) c.if-may_all_stay.false c.give_back.array_long c.give_back.ensures
