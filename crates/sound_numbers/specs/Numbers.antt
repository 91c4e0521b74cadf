-- The numbers of the request rows by their marks.
-- Assumes nothing.
use Rattle.std.specs.Prelude.{Bool, true, false, List, ◌≡◌, ℕ, ◌%◌, ◌<◌, length, get_or}
use Rattle.book.specs.Layout.{numbers}
use Rattle.book.specs.State.{State}

-- the numbers before i that are not 0 are marked, each at its slot
pub record Marked (s : State) (marks : List Bool) (i : ℕ) : Type 0 where
  pub long : length marks ≡ 4096
  pub each : (j : ℕ) → j < i → (s numbers j ≡ 0 → ⊥) → get_or marks (s numbers j % 4096) false ≡ true
