-- A sound book as facts of its rows, one for each test of ByRow; and one whose numbers fit their bytes, which steps and contracts count on.
-- Assumes nothing.
use Rattle.std.specs.Prelude.{◌≡◌, true, ℕ, ◌≤◌, ◌<◌}
use Rattle.limits.specs.Limits.{greatest_nominal}
use Rattle.book.specs.Layout.{spares, rows_of}
use Rattle.book.specs.State.{State}
use Rattle.book.specs.Fits.{Fits}
use Rattle.rules.specs.ByRow.{sound_head, sound_security, sound_participant, sound_basket, is_spare, sound_row, distinct_number, sound_exposure, distinct_key, sound_position}
use Rattle.rules.specs.Stock.{holding}

-- each test of each row
pub record Sound (s : State) : Type 0 where
  pub head : sound_head s ≡ true
  pub security : (i : ℕ) → i < 64 → sound_security s i ≡ true
  pub participant : (p : ℕ) → p < 32 → sound_participant s p ≡ true
  pub basket : (b : ℕ) → b < 16 → sound_basket s b ≡ true
  pub spare : (k : ℕ) → k < rows_of spares → is_spare s k ≡ true
  pub row : (i : ℕ) → i < 256 → sound_row s i ≡ true
  pub number : (i : ℕ) → i < 256 → distinct_number s i ≡ true
  pub exposure : (e : ℕ) → e < 64 → sound_exposure s e ≡ true
  pub key : (e : ℕ) → e < 64 → distinct_key s e ≡ true
  pub position : (e i : ℕ) → e < 64 → i < 64 → sound_position s e i ≡ true
  pub held : (p i : ℕ) → p < 32 → i < 64 → holding s p i ≤ greatest_nominal

-- a sound state whose numbers fit their bytes
pub record Good (s : State) : Type 0 where
  pub facts : Sound s
  pub fits : Fits s
