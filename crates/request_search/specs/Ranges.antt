-- What the functions of a request count on of its record.
-- Assumes nothing.
use Rattle.std.specs.Prelude.{List, ℕ, ◌≤◌}
use Rattle.limits.specs.Limits.{greatest_amount}
use Rattle.rules.specs.Fields.{side_in, giver_in, taker_in, basket_or_exposure_in, amount_in, settlement_in}

-- the fields that a FOP and a return have in common
pub record RequestIn (r : List ℕ) : Type 0 where
  pub side : side_in r ≤ 1
  pub giver : giver_in r ≤ 31
  pub taker : taker_in r ≤ 31
  pub object : basket_or_exposure_in r ≤ 63
  pub amount : amount_in r ≤ greatest_amount
  pub settlement : settlement_in r ≤ 4294967295
