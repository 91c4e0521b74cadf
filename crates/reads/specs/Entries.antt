-- The parts of a read: its rules one by one, its answer by its outcome, and the numbers of a request's answer.
-- Assumes nothing.
use Rattle.std.specs.Prelude.{Bool, not, ◌&&◌, cond, List, [], ◌∷◌, ℕ, eqb, leb, get_or, set, replicate, Result, Ok, Err}
use Rattle.answers.specs.declared.Refusal.{Refusal}
use Rattle.answers.specs.Refusals.{number}
use Rattle.book.specs.Layout.{numbers, request_tables}
use Rattle.book.specs.State.{State}
use Rattle.rules.specs.Outcome.{Rule, rule}
use Rattle.rules.specs.Reads.{shown}

-- 4 of a number past a table's rows; 5 of a row that is not set up, or not in use
abbrev pub index_rules : ℕ → ℕ → List Rule
index_rules rows x = rule (leb rows x) 4 ∷ []

abbrev pub used_rules : State → ℕ → ℕ → List Rule
used_rules s f i = rule (eqb (s f i) 0) 5 ∷ []

-- the answer of n numbers: code 0 and the values, or the code of a refusal and zeros
abbrev pub answer_by : ℕ → Result (List ℕ) Refusal → List ℕ
answer_by n (Ok answer) = answer
answer_by n (Err r) = set (replicate n 0) 0 (number r)

-- the row i is used, with the number n
abbrev pub is_row : State → ℕ → ℕ → Bool
is_row s n i = not (eqb (s numbers i) 0) && eqb (s numbers i) n

-- the number k of the answer of an accepted read of a request: code 0 in the place of its number, then its fields
abbrev pub request_number : State → ℕ → ℕ → ℕ
request_number s i k = cond (eqb k 0) 0 (shown s (get_or request_tables k 0) i)
