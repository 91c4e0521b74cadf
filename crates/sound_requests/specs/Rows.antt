-- What the pass over the request rows knows of those before, and rows that hold nothing.
-- Assumes nothing.
use Rattle.std.specs.Prelude.{Bool, true, ◌≡◌, List, ℕ, ◌+◌, ◌*◌, ◌<◌}
use Rattle.laws.specs.Lists.{every}
use Rattle.book.specs.Layout.{numbers, partners}
use Rattle.book.specs.State.{State}
use Rattle.rules.specs.ByRow.{sound_row}
use Rattle.row_tests.specs.Bytes.{empty_rows}

-- the rows before i are sound
pub record Passed (s : State) (i : ℕ) : Type 0 where
  pub each : (j : ℕ) → j < i → sound_row s j ≡ true

-- a used row that names an earlier one, which is sound
pub record Later (s : State) (i j : ℕ) : Type 0 where
  pub used : 0 < s numbers i
  pub before : j < i
  pub named : s partners i ≡ j + 1
  pub earlier : sound_row s j ≡ true

-- sixteen rows hold nothing in each of some tables
abbrev pub empty_tables : State → List ℕ → ℕ → Bool
empty_tables s tables k = every (λ f. empty_rows s f (16 * k) 16) tables
