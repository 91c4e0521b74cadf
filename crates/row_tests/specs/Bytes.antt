-- Bytes that are all 0, and rows of a table.
-- Assumes nothing.
use Rattle.std.specs.Prelude.{Bool, List, ℕ, ◌+◌, eqb, length, get_or}
use Rattle.laws.specs.Search.{all}
use Rattle.book.specs.State.{State}

abbrev pub empty_byte : List ℕ → ℕ → Bool
empty_byte b k = eqb (get_or b k 0) 0

abbrev pub empty_bytes : List ℕ → Bool
empty_bytes b = all (empty_byte b) (length b) 0

-- the n rows of the table f from one on hold nothing
abbrev pub empty_rows : State → ℕ → ℕ → ℕ → Bool
empty_rows s f start n = all (λ i. eqb (s f (start + i)) 0) n 0
