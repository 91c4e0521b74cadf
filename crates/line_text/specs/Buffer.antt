-- How the code holds answers and texts: what code and proofs need, no part of what the program prints.
-- Assumes nothing.
use Rattle.std.specs.Prelude.{List, ◌++◌, ℕ, ◌+◌, length, get_or, take, drop}
use Rattle.rules.specs.Outcome.{Answer, answer}

-- the answer in a lent array of four numbers
abbrev pub answer_of : List ℕ → Answer
answer_of l = answer (get_or l 0 0) (get_or l 1 0) (get_or l 2 0) (get_or l 3 0)

-- the buffer l with a text at a place; what stands before and behind stays
unfoldable pub with_text : List ℕ → ℕ → List ℕ → List ℕ
with_text l at text = take at l ++ text ++ drop (at + length text) l
