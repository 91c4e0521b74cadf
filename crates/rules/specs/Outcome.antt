-- What a call does: an answer of four numbers, the next state, and what the ledger is told.
-- Assumes nothing.
use Rattle.std.specs.Prelude.{Bool, cond, List, [], ◌∷◌, ℕ}
use Rattle.book.specs.State.{State}

-- "The answer is code, A, B, M."
pub record Answer : Type 0 where
  pub code : ℕ
  pub a : ℕ
  pub b : ℕ
  pub m : ℕ

abbrev pub answer : ℕ → ℕ → ℕ → ℕ → Answer
answer c a b m = record { code = c; a = a; b = b; m = m }

-- what a step tells the ledger of an exposure row: given out; settled into, returned from or closed, with the amount
pub data Event : Type 0 where
  given : ℕ → Event
  settled : ℕ → ℕ → Event
  returned : ℕ → ℕ → Event
  closed : ℕ → ℕ → Event

-- a step: its answer's A, B and M, the state it leaves, and its events in their order
pub record Step : Type 0 where
  pub a : ℕ
  pub b : ℕ
  pub m : ℕ
  pub state : State
  pub events : List Event

-- "A, B and M are 0 unless named": a step that answers nothing and tells nothing
abbrev pub silent : State → Step
silent s = record { a = 0; b = 0; m = 0; state = s; events = [] }

-- a code with its test; the rules of a kind stand in the order of their codes, but for kind 11, where 12 comes before 10
pub record Rule : Type 0 where
  pub applies : Bool
  pub code : ℕ

abbrev pub rule : Bool → ℕ → Rule
rule t c = record { applies = t; code = c }

-- "The lowest that applies is given": the first of the list that does, since the rules stand in the order of precedence
-- (RulesInPrecedence); 0 where none does
abbrev pub lowest : List Rule → ℕ
lowest [] = 0
lowest (r ∷ rs) = cond r.applies r.code (lowest rs)
