-- `valuation::nominal_within` meets its contract: no nominal passes a large amount, and below it one division is the answer.
-- Assumes nothing.
use mathlib.Core.Path.{◌∙◌}
use native.Mathlib.Omega.{arith}
use Rattle.valuation.proofs.Inverse.{large_amount, by_min, unit_pos, unit_le}
use Rattle.valuation.proofs.nominal_within.Goals as goal

pub returns-then-cents-ge150000000000 : goal.returns-then-cents-ge150000000000
returns-then-cents-ge150000000000 c = search large_amount

pub overflow_mul-n-2 : goal.overflow_mul-n-2
overflow_mul-n-2 c =
    omega (arith, unit_le c.args.pricing c.requires.1)

pub nonzero_div-n : goal.nonzero_div-n
nonzero_div-n c = search unit_pos

pub returns : goal.returns
returns c = c.min.ensures ∙ by_min _ _ (unit_pos _ c.requires.0 c.requires.1)
