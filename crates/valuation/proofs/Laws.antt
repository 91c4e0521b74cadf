-- Laws of a value: what the layers above use in the place of its text.
-- Assumes nothing.
use mathlib.Core.Path.{◌≡◌}
use mathlib.Core.Bool.{true, ◌&&◌}
use Prim.Native.Nat.{ℕ, ◌*◌, ◌-◌, ◌/◌, ◌≤◌, ◌<◌}
use native.Mathlib.Nat.{mul-le-mul, mul-le-mul_right, zero-mul, le_trans, le-div_iff_mul-le, div-mul-le_self}
use native.Mathlib.Omega.{arith}
use lib.Dec.{lit<, leb}
use borrow.Author.Tests.{leb-true}
use Rattle.valuation.specs.declared.Pricing.{Pricing}
use Rattle.laws.proofs.Cases.{and_left, and_right}
use Rattle.valuation.specs.Value.{value, legal_pricing}
use Rattle.valuation.specs.Inverse.{Bounded}

-- a product of three, each within its bound
pub product_le : {a b c x y z : ℕ} → a ≤ x → b ≤ y → c ≤ z → a * b * c ≤ x * y * z
product_le p q r = mul-le-mul (mul-le-mul p q) r

div_mono : (k : ℕ) {a b : ℕ} → 0 < k → a ≤ b → a / k ≤ b / k
div_mono k {a} {b} p h = (le-div_iff_mul-le p).1 (le_trans (div-mul-le_self a k) h)

module _ (t : Pricing) where
  -- nothing is worth nothing
  pub value_zero : value t 0 ≡ 0
  unfolding value
  value_zero = simp (zero-mul)

  -- a larger nominal is worth no less
  pub value_mono : {m n : ℕ} → m ≤ n → value t m ≤ value t n
  unfolding value
  value_mono h = div_mono 100000000 (lit< tt) (mul-le-mul_right (10000 - t.haircut) (mul-le-mul_right t.price h))

  -- a nominal of one account is worth at most 150,000,000,000
  pub value_le : Bounded t → {n : ℕ} → n ≤ 500000000 → value t n ≤ 150000000000
  unfolding value
  value_le b h =
      let q : 10000 - t.haircut ≤ 10000 = omega arith in
      omega (arith, product_le h b.price_le q)

  -- a price and haircut in their ranges are within the bounds
  pub legal_bounded : legal_pricing t ≡ true → Bounded t
  legal_bounded h =
      let rest = and_right (leb 1 t.price) (leb t.price 3000000 && leb t.haircut 9999) h in
      record {
        price_le = leb-true t.price 3000000 (and_left (leb t.price 3000000) (leb t.haircut 9999) rest);
        haircut_le = leb-true t.haircut 9999 (and_right (leb t.price 3000000) (leb t.haircut 9999) rest);
      }
