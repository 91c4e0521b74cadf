-- The exported call: the lent answer, and the outcome that it tells.
-- Assumes nothing.
use Rattle.std.specs.Prelude.{List, [], ◌∷◌, ℕ}
use Rattle.rules.specs.Outcome.{Answer}

-- "The answer is code, A, B, M."
abbrev pub numbers_of : Answer → List ℕ
numbers_of a = a.code ∷ a.a ∷ a.b ∷ a.m ∷ []
