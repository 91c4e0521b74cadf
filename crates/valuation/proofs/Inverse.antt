-- The largest nominal worth no more than an amount: what it says of each nominal, and that one division finds it.
-- Assumes nothing.
use mathlib.Core.Path.{◌≡◌, ◌∙◌}
use mathlib.Core.Bool.{Bool, true, false}
use mathlib.Core.Logic.{inr}
use Prim.Native.Nat.{ℕ, ◌+◌, ◌*◌, ◌-◌, ◌/◌, ◌≤◌, ◌<◌, min}
use native.Mathlib.Decide.{dec_le}
use native.Mathlib.Nat.{le_refl, lt_of_not-le, mul_assoc, mul-le-mul, mul-pos, lt_of_lt_of_le, le-div_iff_mul-le, div-lt_iff_lt-mul}
use native.Mathlib.Omega.{arith}
use lib.Dec.{leb, leb-zero}
use borrow.Author.Tests.{leb-true, leb-false, le-leb, lt-leb}
use Rattle.laws.proofs.Largest.{Falling, largest_unique, largest_le, largest_most, falling_below}
use Rattle.valuation.specs.declared.Pricing.{Pricing}
use Rattle.valuation.specs.Value.{value}
use Rattle.valuation.specs.Inverse.{Bounded, nominal_within}
use Rattle.valuation.proofs.Laws.{value_zero, value_mono, value_le}

module _ (t : Pricing) (cents : ℕ) where
  abbrev within : ℕ → Bool
  within n = leb (value t n) cents

  within_falls : Falling within
  unfolding Falling
  within_falls i j h e = lt-leb (value t j) cents (lt_of_lt_of_le (leb-false (value t i) cents e) (value_mono t h))

  -- a nominal is worth no more than the amount just where it is no larger than that nominal
  pub worth_within : (n : ℕ) → n ≤ nominal_within t cents → value t n ≤ cents
  unfolding nominal_within
  worth_within n h = leb-true (value t n) cents (falling_below within 500000000 n within_falls (rw (value_zero t, leb-zero)) h)

  pub within_worth : (n : ℕ) → n ≤ 500000000 → value t n ≤ cents → n ≤ nominal_within t cents
  unfolding nominal_within
  within_worth n h v = largest_most within 500000000 n h (le-leb (value t n) cents v)

  pub within_le : nominal_within t cents ≤ 500000000
  unfolding nominal_within
  within_le = largest_le within 500000000

  -- an amount that no nominal passes
  pub large_amount : Bounded t → 150000000000 ≤ cents → 500000000 ≡ nominal_within t cents
  unfolding nominal_within
  large_amount b h =
      largest_unique within 500000000 500000000 (le_refl 500000000)
      (inr (le-leb (value t 500000000) cents (omega (arith, value_le t b (le_refl 500000000)))))
      (λ j l m. absurd (omega arith))

  module _ (p : 0 < t.price * (10000 - t.haircut)) where
    abbrev unit : ℕ
    unit = t.price * (10000 - t.haircut)

    abbrev top : ℕ
    top = cents * 100000000 + 99999999

    within_unit : (n : ℕ) → n * unit ≤ top → within n ≡ true
    unfolding value
    within_unit n h =
        let e : n * t.price * (10000 - t.haircut) ≡ n * unit = mul_assoc n t.price (10000 - t.haircut) in
        le-leb (value t n) cents (omega (arith, h, e))

    above_unit : (n : ℕ) → top < n * unit → within n ≡ false
    unfolding value
    above_unit n h =
        let e : n * t.price * (10000 - t.haircut) ≡ n * unit = mul_assoc n t.price (10000 - t.haircut) in
        lt-leb (value t n) cents (omega (arith, h, e))

    by_division : top / unit ≤ 500000000 → top / unit ≡ nominal_within t cents
    unfolding nominal_within Falling
    by_division h =
        largest_unique within 500000000 (top / unit) h
        (inr (within_unit (top / unit) ((le-div_iff_mul-le p).0 (le_refl (top / unit)))))
        (λ j l m. within_falls (top / unit + 1) j (omega arith) (above_unit (top / unit + 1) ((div-lt_iff_lt-mul p).0 (omega arith))))

    by_division_all : 500000000 ≤ top / unit → 500000000 ≡ nominal_within t cents
    unfolding nominal_within
    by_division_all h =
        largest_unique within 500000000 500000000 (le_refl 500000000) (inr (within_unit 500000000 ((le-div_iff_mul-le p).0 h))) (λ j l m. absurd (omega arith))

    -- the quotient or the greatest nominal, whichever is less
    pub by_min : min (top / unit) 500000000 ≡ nominal_within t cents
    by_min = elim (dec_le (top / unit) 500000000) [
      | yes h ↦ let e : min (top / unit) 500000000 ≡ top / unit = omega arith in e ∙ by_division h
      | no n ↦ let e : min (top / unit) 500000000 ≡ 500000000 = omega (arith, lt_of_not-le n) in e ∙ by_division_all (omega (arith, lt_of_not-le n))
    ]

-- the divisor is not 0
pub unit_pos : (t : Pricing) → 1 ≤ t.price → Bounded t → 0 < t.price * (10000 - t.haircut)
unit_pos t h b = mul-pos h (omega (arith, b.haircut_le))

-- and fits
pub unit_le : (t : Pricing) → Bounded t → t.price * (10000 - t.haircut) ≤ 30000000000
unit_le t b =
    let q : 10000 - t.haircut ≤ 10000 = omega arith in
    omega (arith, mul-le-mul b.price_le q)
