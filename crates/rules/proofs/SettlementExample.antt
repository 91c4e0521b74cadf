-- A small book settled, computed from the definitions of step 9: what an edit of them has to contradict.
-- Assumes nothing.
use mathlib.Core.Path.{◌≡◌, refl}
use mathlib.Core.Bool.{cond}
use mathlib.Core.List.{List, [], ◌∷◌}
use Prim.Native.Nat.{ℕ}
use lib.Dec.{eqb}
use lib.ListN.{get_or}
use Rattle.laws.specs.Lists.{those, inserted, in_order}
use Rattle.laws.specs.Search.{least}
use Rattle.baskets.specs.Basket.{eligible}
use Rattle.picking.specs.Pick.{parcel_from, picked_below}
use Rattle.book.specs.Layout.{today, tolerance, numbers, request_kinds, amounts, settlements, partners, pair_partials, in_use, exposure_amounts}
use Rattle.book.specs.State.{State}
use Rattle.rules.specs.Outcome.{settled, returned}
use Rattle.rules.specs.Settlement.{is_due, settles_before, due_rows, return_settled, settle_return, fop_case, fop_settles, settle_fop, settle_each, settlement}

-- Today is day 5, the tolerance is 100, exposure 0 has 40. Pairs in the order of their numbers: a return of 30 due on day 5, one of 15 due
-- on day 3, a FOP of 50 due on day 3, one of 200 due on day 2 where both allowed partial, a return of 20 due on day 3, and one of 10
-- due on day 6. No security is set up, so no Pick finds anything.
abbrev columns : ℕ → List ℕ
columns f =
    cond (eqb f today) (5 ∷ [])
    (cond (eqb f tolerance) (100 ∷ [])
    (cond (eqb f numbers) (1 ∷ 2 ∷ 3 ∷ 4 ∷ 5 ∷ 6 ∷ 7 ∷ 8 ∷ 9 ∷ 10 ∷ 11 ∷ 12 ∷ [])
    (cond (eqb f request_kinds) (7 ∷ 7 ∷ 7 ∷ 7 ∷ 6 ∷ 6 ∷ 6 ∷ 6 ∷ 7 ∷ 7 ∷ 7 ∷ 7 ∷ [])
    (cond (eqb f amounts) (30 ∷ 30 ∷ 15 ∷ 15 ∷ 50 ∷ 50 ∷ 200 ∷ 200 ∷ 20 ∷ 20 ∷ 10 ∷ 10 ∷ [])
    (cond (eqb f settlements) (5 ∷ 5 ∷ 3 ∷ 3 ∷ 3 ∷ 3 ∷ 2 ∷ 2 ∷ 3 ∷ 3 ∷ 6 ∷ 6 ∷ [])
    (cond (eqb f partners) (2 ∷ 1 ∷ 4 ∷ 3 ∷ 6 ∷ 5 ∷ 8 ∷ 7 ∷ 10 ∷ 9 ∷ 12 ∷ 11 ∷ [])
    (cond (eqb f pair_partials) (0 ∷ 0 ∷ 0 ∷ 0 ∷ 0 ∷ 0 ∷ 1 ∷ 1 ∷ 0 ∷ 0 ∷ 0 ∷ 0 ∷ [])
    (cond (eqb f in_use) (1 ∷ [])
    (cond (eqb f exposure_amounts) (40 ∷ []) [])))))))))

abbrev small : State
small f i = get_or (columns f) i 0

pub small_due : due_rows small 7 ≡ 3 ∷ 9 ∷ 1 ∷ []
unfolding those inserted in_order is_due settles_before due_rows
small_due = refl

-- the earlier returns take 35 of the 40, the last what is left; the FOP of 200 finds nothing, that of 50 lacks less than the tolerance
pub small_settles : ((settlement small).a ≡ 1) × ((settlement small).b ≡ 3) × ((settlement small).m ≡ 90) × ((settlement small).events ≡ returned 0 15 ∷ returned 0 20 ∷ returned 0 5 ∷ settled 0 50 ∷ [])
unfolding those inserted in_order least eligible parcel_from picked_below is_due settles_before due_rows return_settled settle_return fop_case fop_settles settle_fop settle_each settlement
small_settles = (refl, refl, refl, refl)
