-- `substitution::substitutes` meets its contract.
-- Assumes nothing.
use Rattle.substitution.proofs.Accepting.{exposure_in, bounded_in, basket_in, oldest_in, left_within, after_within, substitutes_found}
use Rattle.substitution.proofs.substitutes.Goals as goal

pub worth_of-value-requires : goal.worth_of-value-requires
worth_of-value-requires c =
    let k = c.requires in
    (bounded_in k.0 k.1, left_within k.0 c.fits-book c.position_left-left.ensures)

pub get-requires : goal.get-requires
get-requires c = exposure_in c.requires.0

pub basket_of-basket-requires : goal.basket_of-basket-requires
basket_of-basket-requires c =
    let k = c.requires in
    (exposure_in k.0, basket_in k.0)

pub eligibility_on-x-requires : goal.eligibility_on-x-requires
eligibility_on-x-requires c =
    let k = c.requires in
    oldest_in k.0 c.basket_of-basket.ensures

pub pick-requires : goal.pick-requires
pick-requires c =
    let k = c.requires in
    (bounded_in k.0 k.1, after_within k.0 c.fits-book c.account_after-account.ensures)

pub returns : goal.returns
returns c =
    let k = c.requires in
    substitutes_found k.0 k.1 c.position_left-left.ensures c.worth_of-value.ensures c.get.ensures c.saturating_sub-missing.ensures c.account_after-account.ensures c.basket_of-basket.ensures
    c.get-today.ensures c.eligibility_on-x.ensures c.pick.ensures
