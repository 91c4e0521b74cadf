-- A row of 64 numbers of four bytes that is lent by itself: each changed by the number of a list, one after the other.
-- Assumes nothing.
use Rattle.std.specs.Prelude.{◌≡◌, List, ℕ, ◌*◌, ◌≤◌, ◌<◌, length, get_or}
use Rattle.laws.specs.Numbers.{number_at}

-- the row's numbers below n are changed, each to what the change gives, and the others are as they were
pub record Changed (gives : ℕ → ℕ → ℕ → Type 0) (row by : List ℕ) (n : ℕ) (after : List ℕ) : Type 0 where
  pub long : length after ≡ 256
  pub done : (i : ℕ) → i < n → gives (number_at row (4 * i) 4) (get_or by i 0) (number_at after (4 * i) 4)
  pub rest : (i : ℕ) → n ≤ i → i < 64 → number_at after (4 * i) 4 ≡ number_at row (4 * i) 4

-- each number of the row may be changed, to one that fits its four bytes
pub record RowChangeable (may : ℕ → ℕ → Type 0) (gives : ℕ → ℕ → ℕ → Type 0) (row by : List ℕ) : Type 0 where
  pub long : length row ≡ 256
  pub may_be : (i : ℕ) → i < 64 → may (number_at row (4 * i) 4) (get_or by i 0)
  pub fits : (i : ℕ) → i < 64 → (y : ℕ) → gives (number_at row (4 * i) 4) (get_or by i 0) y → y < 4294967296
