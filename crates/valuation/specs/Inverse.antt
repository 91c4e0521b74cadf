-- The inverse of the value, and what the code counts on.
-- Assumes nothing.
use Rattle.std.specs.Prelude.{ℕ, ◌≤◌, leb}
use Rattle.limits.specs.Limits.{greatest_haircut, greatest_nominal, greatest_price}
use Rattle.laws.specs.Search.{largest}
use Rattle.valuation.specs.declared.Pricing.{Pricing}
use Rattle.valuation.specs.Value.{value}

-- the bounds within which the laws hold and the product fits 64 bits
pub record Bounded (t : Pricing) : Type 0 where
  pub price_le : t.price ≤ greatest_price
  pub haircut_le : t.haircut ≤ greatest_haircut

-- the largest nominal of one account that is worth no more than an amount
unfoldable pub nominal_within : Pricing → ℕ → ℕ
nominal_within t cents = largest (λ n. leb (value t n) cents) greatest_nominal
