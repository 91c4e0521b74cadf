-- What the code counts on: securities and nominals within their bounds.
-- Assumes nothing.
use Rattle.std.specs.Prelude.{List, ℕ, ◌≤◌, ◌<◌}
use Rattle.limits.specs.Limits.{greatest_lot, greatest_nominal}
use Rattle.valuation.specs.Inverse.{Bounded}
use Rattle.securities.specs.declared.Security as declared
use Rattle.securities.specs.Security.{security_at}

-- what picking and freeing count on: numbers within their bounds, and a price where it is set up
pub record InBounds (s : declared.Security) : Type 0 where
  pub lot_le : s.lot ≤ greatest_lot
  pub bounded : Bounded s.pricing
  pub priced : 0 < s.lot → 1 ≤ s.pricing.price

-- all 64 of them
pub record AllInBounds (columns : List ℕ) : Type 0 where
  pub in_bounds : (i : ℕ) → i < 64 → InBounds (security_at columns i)

-- each nominal is at most 500,000,000
pub record Within (nominal : ℕ → ℕ) : Type 0 where
  pub within : (i : ℕ) → i < 64 → nominal i ≤ greatest_nominal
