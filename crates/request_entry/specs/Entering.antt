-- What entering a request counts on, rows and numbers to hand, and the exposure of a FOP pair.
-- Assumes nothing.
use Rattle.std.specs.Prelude.{◌≡◌, Bool, true, ◌&&◌, cond, List, ℕ, ◌+◌, ◌≤◌, ◌<◌, eqb}
use Rattle.limits.specs.Limits.{greatest_next}
use Rattle.book.specs.Layout.{next_number, numbers}
use Rattle.book.specs.State.{State, put}
use Rattle.rules.specs.Requests.{free_exposure, free_row}
use Rattle.rules.specs.Requesting.{exposure_of, exposure_given}

-- a row and a number for one request
pub record RoomForOne (s : State) : Type 0 where
  pub row : free_row s < 256
  pub number : s next_number 0 + 1 ≤ greatest_next

-- and for a request with its taker request
pub record RoomForTwo (s : State) : Type 0 where
  pub first : free_row s < 256
  pub second : free_row (put s numbers (free_row s) (s next_number 0)) < 256
  pub number : s next_number 0 + 2 ≤ greatest_next

-- a FOP whose key no exposure has
abbrev pub lacks_exposure : State → ℕ → List ℕ → Bool
lacks_exposure s k r = eqb k 6 && eqb (exposure_of s r) 64

-- where an exposure row is to be given out, one is free
pub record ExposureRoom (s : State) (k : ℕ) (r : List ℕ) : Type 0 where
  pub spare : lacks_exposure s k r ≡ true → free_exposure s < 64

-- "A FOP pair belongs to the exposure of its giver, taker, basket and closing date, or to the lowest free row"
abbrev pub with_exposure : State → ℕ → List ℕ → State
with_exposure s k r = cond (lacks_exposure s k r) (exposure_given s r (free_exposure s)) s
