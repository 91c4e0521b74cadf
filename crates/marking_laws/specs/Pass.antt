-- One exposure's part in a pass of the mark.
-- Assumes nothing.
use Rattle.std.specs.Prelude.{Bool, cond, List, ℕ, eqb, get_or}
use Rattle.laws.specs.Search.{all}
use Rattle.book.specs.Layout.{in_use}
use Rattle.book.specs.State.{State}

-- a step on an exposure where it is used
abbrev pub on_used : (State → ℕ → State) → State → ℕ → State
on_used step s e = cond (eqb (s in_use e) 1) (step s e) s

-- none of 64 nominals is more than 0
abbrev pub is_empty : List ℕ → Bool
is_empty nominals = all (λ i. eqb (get_or nominals i 0) 0) 64 0
