-- Laws of a position's value.
-- Assumes nothing.
use mathlib.Core.Path.{◌≡◌, ap}
use mathlib.Core.List.{List}
use Prim.Native.Nat.{ℕ, ◌+◌, ◌*◌, ◌≤◌, ◌<◌}
use native.Mathlib.Omega.{arith}
use Rattle.laws.specs.Sum.{sum}
use Rattle.laws.proofs.Sum.{sum_le, sum_part, sum_one}
use Rattle.valuation.specs.Value.{value}
use Rattle.valuation.proofs.Laws.{value_le}
use Rattle.securities.specs.Security.{security_at}
use Rattle.securities.specs.Bounds.{AllInBounds, Within}
use Rattle.securities.specs.Position.{worth, value_at}

module _ (columns : List ℕ) (a : AllInBounds columns) where
  -- one security is worth at most 150,000,000,000, and those below k so many times that
  pub value_at_le : (nominal : ℕ → ℕ) → Within nominal → (i : ℕ) → i < 64 → value_at columns nominal i ≤ 150000000000
  value_at_le nominal w i l = value_le (security_at columns i).pricing (a.in_bounds i l).bounded (w.within i l)

  pub sum_worth_le : (nominal : ℕ → ℕ) → Within nominal → (k : ℕ) → k ≤ 64 → sum (value_at columns nominal) k ≤ 150000000000 * k
  sum_worth_le nominal w k h = sum_le (value_at columns nominal) 150000000000 k (λ i l. value_at_le nominal w i (omega arith))

-- one security is a part of the whole
pub value_part : (columns : List ℕ) (nominal : ℕ → ℕ) (i : ℕ) → i < 64 → value_at columns nominal i ≤ worth columns nominal
unfolding worth
value_part columns nominal i l = sum_part (value_at columns nominal) i 64 l

-- positions that differ in one security alone differ in value by that security's
pub worth_one : (columns : List ℕ) (f g : ℕ → ℕ) (i : ℕ) → i < 64 → ((j : ℕ) → (j ≡ i → ⊥) → f j ≡ g j)
    → worth columns f + value_at columns g i ≡ worth columns g + value_at columns f i
unfolding worth
worth_one columns f g i l d =
    sum_one (value_at columns f) (value_at columns g) i 64 l (λ j n. ap (value (security_at columns j).pricing) (d j n))
