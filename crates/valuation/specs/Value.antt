-- Document 01, "Steps": the value of a nominal.
-- Assumes nothing.
use Rattle.std.specs.Prelude.{Bool, ◌&&◌, ℕ, ◌*◌, ◌-◌, ◌/◌, leb}
use Rattle.limits.specs.Limits.{greatest_haircut, greatest_nominal, greatest_price}
use Rattle.answers.specs.declared.CodedValue.{CodedValue}
use Rattle.answers.specs.Answers.{accepted_if, out_of_range}
use Rattle.valuation.specs.declared.Pricing.{Pricing}

-- "Value of nominal N: N × price × (10,000 − haircut) / 10^8, rounded down", in cents
unfoldable pub value : Pricing → ℕ → ℕ
value t n = n * t.price * (10000 - t.haircut) / 100000000

-- Records' table: "price 32 (1 to 3,000,000)", "haircut 16 (0 to 9,999 ..)"
abbrev pub legal_pricing : Pricing → Bool
legal_pricing t = leb 1 t.price && (leb t.price greatest_price && leb t.haircut greatest_haircut)

-- a nominal of one account and security: 0 to 500,000,000
abbrev pub legal_nominal : ℕ → Bool
legal_nominal n = leb n greatest_nominal

-- the stand-alone valuation: the value, or 4 for a number out of its range
unfoldable pub valued : ℕ → Pricing → CodedValue
valued n t = accepted_if (legal_nominal n && legal_pricing t) out_of_range (value t n)
