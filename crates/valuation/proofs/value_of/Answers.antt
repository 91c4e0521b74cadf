-- `valuation::value_of` meets its contract: the products fit by their bounds.
-- Assumes nothing.
use Prim.Native.Nat.{◌-◌, ◌≤◌}
use borrow.Author.Rules.{rules}
use native.Mathlib.Nat.{mul-le-mul}
use native.Mathlib.Omega.{arith}
use Rattle.valuation.specs.Value.{value}
use Rattle.valuation.proofs.Laws.{product_le}
use Rattle.valuation.proofs.value_of.Goals as goal

pub overflow_mul-result : goal.overflow_mul-result
overflow_mul-result c = omega (arith, mul-le-mul c.requires.0 c.requires.1.price_le)

pub overflow_mul-result-2 : goal.overflow_mul-result-2
overflow_mul-result-2 c =
    let q : 10000 - c.args.pricing.haircut ≤ 10000 = omega arith in
    omega (arith, product_le c.requires.0 c.requires.1.price_le q)

pub returns : goal.returns
unfolding value
returns c = search rules
