-- Laws of a pick.
-- Assumes nothing.
use mathlib.Core.Path.{◌≡◌, refl, sym, ap, ◌∙◌}
use mathlib.Core.Bool.{Bool, true, false, not}
use mathlib.Core.List.{List}
use mathlib.Core.Logic.{⊎_elim}
use Prim.Native.Nat.{ℕ, zero, suc, ◌+◌, ◌-◌, ◌≤◌, ◌<◌, min}
use native.Mathlib.Numerals.{add-one}
use native.Mathlib.Omega.{arith}
use lib.Dec.{eqb}
use lib.ListN.{get_or}
use Rattle.std.specs.Int.{from_bool}
use borrow.Author.Tests.{ne_eqb}
use Rattle.laws.proofs.Cases.{either}
use Rattle.baskets.specs.Basket.{eligible}
use Rattle.baskets.specs.Fresh.{eligible_by, EligibilityFor}
use Rattle.baskets.specs.declared.Basket.{Basket}
use Rattle.baskets.specs.declared.Eligibility.{Eligibility}
use Rattle.baskets.proofs.Eligible.{eligible_same}
use Rattle.securities.specs.Security.{security_at}
use Rattle.parcels.specs.Lots.{no_parcel, parcel_to_pick}
use Rattle.picking.specs.Pick.{but_not, with_parcel, parcel_from, picked_below, picked}
use Rattle.picking.specs.declared.Outcome.{Outcome}
use Rattle.parcels.specs.declared.Parcel.{Parcel}
use Rattle.parcels.proofs.Parcels.{picked_worth, pick_empty}

-- a nominal counts once where there is one
pub counts : (n : ℕ) → from_bool (not (eqb n 0)) ≡ min n 1
counts zero = refl
counts (suc n) = let e : eqb (suc n) 0 ≡ false = ne_eqb (suc n) 0 (λ q. omega arith) in rw e (omega arith)

module _ (columns account : List ℕ) (eligible : ℕ → Bool) where
  -- a security in the map of the eligible, and one that is not
  pub from_eligible : (i remains : ℕ) → eligible i ≡ true → parcel_from columns account eligible i remains ≡ parcel_to_pick (security_at columns i) (get_or account i 0) remains
  unfolding parcel_from
  from_eligible i remains e = rw e

  pub from_other : (i remains : ℕ) → eligible i ≡ false → parcel_from columns account eligible i remains ≡ no_parcel
  unfolding parcel_from
  from_other i remains e = rw e

  -- a parcel without a nominal is the empty one for both
  pub from_empty : (i remains : ℕ) {p : Parcel} → p ≡ parcel_to_pick (security_at columns i) (get_or account i 0) remains → p.nominal ≡ 0 → no_parcel ≡ parcel_from columns account eligible i remains
  from_empty i remains {p} e z =
      let none : p ≡ no_parcel = e ∙ pick_empty (security_at columns i) (get_or account i 0) remains (sym (ap (λ (q : Parcel). q.nominal) e) ∙ z) in
      ⊎_elim (λ t. sym none ∙ e ∙ sym (from_eligible i remains t)) (λ t. sym (from_other i remains t)) (either (eligible i))

  -- no parcel is worth more than what remains
  pub parcel_worth : (i remains : ℕ) → (parcel_from columns account eligible i remains).value ≤ remains
  parcel_worth i remains = ⊎_elim
      (λ e. rw (from_eligible i remains e) (picked_worth (security_at columns i) (get_or account i 0) remains))
      (λ e. rw (from_other i remains e) (omega arith))
      (either (eligible i))

  module _ (amount : ℕ) where
    -- the value found stays within the amount, and the count within the securities looked at
    pub picked_value : (n : ℕ) → (picked_below columns account eligible amount n).value ≤ amount
    unfolding picked_below
    picked_value zero = omega arith
    picked_value (suc n) =
        let o = picked_below columns account eligible amount n in
        omega (arith, picked_value n, parcel_worth n (amount - o.value))

    pub picked_count : (n : ℕ) → (picked_below columns account eligible amount n).count ≤ n
    unfolding picked_below
    picked_count zero = omega arith
    picked_count (suc n) = omega (arith, picked_count n)

    -- one security more, in the code's i + 1
    pub picked_next : (i : ℕ) {o : Outcome} {p : Parcel} → o ≡ picked_below columns account eligible amount i
        → p ≡ parcel_from columns account eligible i (amount - o.value) → with_parcel i p o ≡ picked_below columns account eligible amount (i + 1)
    unfolding picked_below
    picked_next i e f = rw (add-one, ← e, f)

-- tests that agree on the securities pick the same
pub picked_same : (columns account : List ℕ) (e f : ℕ → Bool) (amount n : ℕ) → ((i : ℕ) → i < n → e i ≡ f i) → picked_below columns account e amount n ≡ picked_below columns account f amount n
unfolding picked_below parcel_from
picked_same columns account e f amount zero h = refl
picked_same columns account e f amount (suc n) h =
    rw (picked_same columns account e f amount n (λ i l. h i (omega arith)), h n (omega arith))

-- eligible by the day of the quote, picked by the price's age
module _ (columns account : List ℕ) (amount : ℕ) {b : Basket} {today : ℕ} {x : Eligibility} (f : EligibilityFor b today columns x) where
  pub picked_eligible : picked columns account (eligible_by x columns) amount ≡ picked columns account (eligible b today columns) amount
  picked_eligible = picked_same columns account (eligible_by x columns) (eligible b today columns) amount 64 (eligible_same f)

  pub picked_eligible_but : (omitted : ℕ) → picked columns account (but_not omitted (eligible_by x columns)) amount ≡ picked columns account (but_not omitted (eligible b today columns)) amount
  picked_eligible_but omitted =
      picked_same columns account (but_not omitted (eligible_by x columns)) (but_not omitted (eligible b today columns)) amount 64 (λ i l. rw (eligible_same f i l))
