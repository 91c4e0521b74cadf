-- Document 01, "The program's lines": "a line for each: place from 1, kind, code, A, B, M".
-- Assumes nothing.
use Rattle.std.specs.Prelude.{cond, List, [], ◌∷◌, ◌++◌, ℕ, zero, suc, ◌+◌, ◌/◌, ◌%◌, ltb}
use Rattle.rules.specs.Outcome.{Answer, answer}

-- the digits of n in ASCII, the first one first, at most m of them
unfoldable pub numeral_within : ℕ → ℕ → List ℕ
numeral_within zero n = []
numeral_within (suc m) n = cond (ltb n 10) [] (numeral_within m (n / 10)) ++ ((48 + n % 10) ∷ [])

-- a number in base ten: 0 is one digit, and no other number begins with a 0
unfoldable pub numeral : ℕ → List ℕ
numeral n = numeral_within (suc n) n

-- a number and the byte after it
abbrev pub word : ℕ → ℕ → List ℕ
word n after = numeral n ++ (after ∷ [])

-- place, kind, code, A, B, M: a space (32) between, a newline (10) after
unfoldable pub line_of : ℕ → ℕ → Answer → List ℕ
line_of place kind a = word place 32 ++ word kind 32 ++ word a.code 32 ++ word a.a 32 ++ word a.b 32 ++ word a.m 10

-- "A cut or unknown record prints code 3 and ends it": the line of what is left of the input behind its whole records, none where nothing is
unfoldable pub last_line : ℕ → List ℕ → List ℕ
last_line place [] = []
last_line place (kind ∷ rest) = line_of place kind (answer 3 0 0 0)
