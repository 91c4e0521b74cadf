-- What the moves of bonds count on.
-- Assumes nothing.
use Rattle.std.specs.Prelude.{◌≡◌, true, List, ℕ, ◌+◌, ◌*◌, ◌<◌, length}
use Rattle.book.specs.Layout.{book_length, exposure_givers, exposure_baskets, accounts, positions}
use Rattle.book.specs.State.{State, state, columns_of, lowered}
use Rattle.book.specs.Fits.{Raisable, Lowerable}
use Rattle.rules.specs.Sound.{sound}
use Rattle.rules.specs.Stock.{account_of, position_of}
use Rattle.securities.specs.Position.{nominals_of}
use Rattle.securities.specs.Bounds.{AllInBounds, Within}

-- a sound book with its securities
pub record SoundBook (book columns : List ℕ) : Type 0 where
  pub long : length book ≡ book_length
  pub sound_book : sound (state book) ≡ true
  pub securities : columns ≡ columns_of (state book)

-- bonds may go from the account of an exposure's giver into its position, and back
pub record Pledging (s : State) (e : ℕ) (by : List ℕ) : Type 0 where
  pub below : e < 64
  pub giver : s exposure_givers e < 32
  pub enough : Lowerable s accounts (64 * s exposure_givers e) by
  pub room : Raisable (lowered s accounts (64 * s exposure_givers e) by) positions (64 * e) by

pub record GivingBack (s : State) (e : ℕ) (by : List ℕ) : Type 0 where
  pub below : e < 64
  pub giver : s exposure_givers e < 32
  pub enough : Lowerable s positions (64 * e) by
  pub room : Raisable (lowered s positions (64 * e) by) accounts (64 * s exposure_givers e) by

-- what Pick counts on, for an exposure of the book
pub record Pickable (s : State) (e : ℕ) : Type 0 where
  pub below : e < 64
  pub giver : s exposure_givers e < 32
  pub basket : s exposure_baskets e < 16
  pub bounded : AllInBounds (columns_of s)
  pub within : Within (nominals_of (account_of s (s exposure_givers e)))

-- and Free: account and position together fit four bytes
pub record Freeable (s : State) (e : ℕ) : Type 0 where
  pub below : e < 64
  pub giver : s exposure_givers e < 32
  pub bounded : AllInBounds (columns_of s)
  pub within : Within (nominals_of (position_of s e))
  pub together : (i : ℕ) → i < 64 → s accounts (64 * s exposure_givers e + i) + s positions (64 * e + i) < 4294967296
