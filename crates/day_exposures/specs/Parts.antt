-- What closing an exposure counts on, and the tests of an exposure.
-- Assumes nothing.
use Rattle.std.specs.Prelude.{◌≡◌, Bool, true, false, not, cond, List, Option, Some, IfSome, ℕ, ◌+◌, ◌*◌, ◌≤◌, ◌<◌, eqb, length, get_or}
use Rattle.limits.specs.Limits.{greatest_exposure, greatest_nominal}
use Rattle.book.specs.Layout.{in_use, exposure_givers, exposure_amounts, accounts, positions}
use Rattle.book.specs.State.{State, put}
use Rattle.rules.specs.DayChange.{is_exposure_closed, belongs}
use Rattle.rules.specs.Stock.{holding}
use Rattle.exposure_search.specs.Slots.{slot_of}

-- what an exposure adds to the amounts closed
abbrev pub amount_closed : State → ℕ → ℕ
amount_closed s e = cond (is_exposure_closed s e) (s exposure_amounts e) 0

-- a security is held in an exposure's position; it goes back to the owner's account
abbrev pub is_held : ℕ → State → ℕ → Bool
is_held e s i = not (eqb (s positions (64 * e + i)) 0)

abbrev pub security_back : ℕ → ℕ → State → ℕ → State
security_back owner e s i = put (put s accounts (64 * owner + i) (s accounts (64 * owner + i) + s positions (64 * e + i))) positions (64 * e + i) 0

-- what giving a whole position back counts on: account and position together fit four bytes
pub record Entire (s : State) (e : ℕ) : Type 0 where
  pub below : e < 64
  pub giver : s exposure_givers e < 32
  pub room : (i : ℕ) → i < 64 → s accounts (64 * s exposure_givers e + i) + s positions (64 * e + i) < 4294967296

-- what closing an exposure counts on
pub record Closable (s : State) : Type 0 where
  pub giver : (e : ℕ) → e < 64 → s in_use e ≡ 1 → s exposure_givers e < 32
  pub amount : (e : ℕ) → e < 64 → s in_use e ≡ 1 → s exposure_amounts e ≤ greatest_exposure
  pub held : (p i : ℕ) → p < 32 → i < 64 → holding s p i ≤ greatest_nominal

-- a row does not belong to an exposure
abbrev pub is_not_of : State → ℕ → ℕ → Bool
is_not_of s e i = not (belongs s e i)

-- a row has the slot of the exposure that it belongs to
pub record RowSlot (s : State) (i : ℕ) (slot : Option ℕ) : Type 0 where
  pub below : IfSome slot (λ x. x < 1024)
  pub same : (e : ℕ) → e < 64 → belongs s e i ≡ true → slot ≡ Some (slot_of s e)

-- the exposures that the rows before i belong to are marked, each at its slot
pub record Marked (s : State) (marks : List Bool) (i : ℕ) : Type 0 where
  pub long : length marks ≡ 1024
  pub each : (e j : ℕ) → e < 64 → j < i → belongs s e j ≡ true → get_or marks (slot_of s e) false ≡ true

-- one exposure is marked, if a row belongs to it
pub record MarkedFor (s : State) (marks : List Bool) (e : ℕ) : Type 0 where
  pub mark : (j : ℕ) → j < 256 → belongs s e j ≡ true → get_or marks (slot_of s e) false ≡ true
