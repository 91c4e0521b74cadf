-- Numbers that fit their bytes, and what a raise and a lowering of a row count on.
-- Assumes nothing.
use Rattle.std.specs.Prelude.{◌≡◌, List, ℕ, ◌+◌, ◌^◌, ◌≤◌, ◌<◌, get_or}
use Rattle.book.specs.Layout.{rows_of, width_of}
use Rattle.book.specs.State.{State}

-- what a raise counts on: no number passes four bytes; and a lowering: each number is large enough
pub record Raisable (s : State) (f start : ℕ) (by : List ℕ) : Type 0 where
  pub room : (i : ℕ) → i < 64 → s f (start + i) + get_or by i 0 < 4294967296

pub record Lowerable (s : State) (f start : ℕ) (by : List ℕ) : Type 0 where
  pub enough : (i : ℕ) → i < 64 → get_or by i 0 ≤ s f (start + i)

-- the numbers fit their bytes, and rows that the layout does not have are 0
pub record Fits (s : State) : Type 0 where
  pub fits : (f i : ℕ) → i < rows_of f → s f i < 256 ^ width_of f
  pub blank : (f i : ℕ) → rows_of f ≤ i → s f i ≡ 0
