-- A set of numbers below 64 as the bits of one number.
-- Assumes nothing.
use Rattle.std.specs.Prelude.{Bool, ℕ, ◌/◌, ◌%◌, ◌^◌, eqb}

-- bit i of the map is set
abbrev pub has_bit : ℕ → ℕ → Bool
has_bit map i = eqb (map / 2 ^ i % 2) 1
