-- The number that a search came to, or nothing.
-- Assumes nothing.
use Rattle.std.specs.Prelude.{cond, ℕ, ltb, Option, Some, None}

-- the number that a search below n came to, or nothing where it came to n
abbrev pub found : ℕ → ℕ → Option ℕ
found n i = cond (ltb i n) (Some i) None
