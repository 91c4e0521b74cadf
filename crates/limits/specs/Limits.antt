-- Document 01's limits, each said once. The least number of each range stands with the range.
-- Assumes nothing.
use Rattle.std.specs.Prelude.{ℕ}

-- "tolerance 32 (1 to 100,000,000)"
abbrev pub greatest_tolerance : ℕ
greatest_tolerance = 100000000

-- "lot 32 (1 to 1,000,000)"
abbrev pub greatest_lot : ℕ
greatest_lot = 1000000

-- "price 32 (1 to 3,000,000; 1,000,000 is par)"
abbrev pub greatest_price : ℕ
greatest_price = 3000000

-- "haircut 16 (0 to 9,999 hundredths of a percent)"
abbrev pub greatest_haircut : ℕ
greatest_haircut = 9999

-- "nominal 32 (1 to 500,000,000)"; "account plus positions of a giver in one security is at most 500,000,000"
abbrev pub greatest_nominal : ℕ
greatest_nominal = 500000000

-- "amount 64 (.. to 10^12)"
abbrev pub greatest_amount : ℕ
greatest_amount = 1000000000000

-- "exposures are at most 10^13"
abbrev pub greatest_exposure : ℕ
greatest_exposure = 10000000000000

-- "numbers above 999,999,999" are not given, so the next one to be given is at most one more
abbrev pub greatest_next : ℕ
greatest_next = 1000000000
