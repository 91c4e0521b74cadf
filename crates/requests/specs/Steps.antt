-- What the steps of kinds 6 to 8 count on, and what a cancel leaves.
-- Assumes nothing.
use Rattle.std.specs.Prelude.{◌≡◌, true, cond, List, ℕ, ◌<◌}
use Rattle.book.specs.Layout.{givers, takers, cancels, ends}
use Rattle.book.specs.State.{State, put}
use Rattle.rules.specs.Requests.{partner_of, free_exposure}
use Rattle.rules.specs.Requesting.{taker_follows, needs_exposure, paired_with, entered, pair_ends}
use Rattle.request_entry.specs.Entering.{RoomForOne, RoomForTwo}

-- what an accepted request has to hand
pub record Room (s : State) (k : ℕ) (r : List ℕ) : Type 0 where
  pub one : RoomForOne s
  pub two : taker_follows s r ≡ true → RoomForTwo s
  pub exposure : needs_exposure s k r ≡ true → free_exposure s < 64

-- a paired row, its parties and its partner's row
pub record PairIn (s : State) (i j : ℕ) : Type 0 where
  pub row : i < 256
  pub giver : s givers i < 32
  pub taker : s takers i < 32
  pub partner : j ≡ partner_of s i
  pub partner_row : j < 256

-- a paired request after its owner's cancel
abbrev pub cancelled_pair : State → ℕ → State
cancelled_pair s i = cond (pair_ends s i) (put (put (put s cancels i 1) ends i 1) ends (partner_of s i) 1) (put s cancels i 1)

-- a request is entered: the number of the one that it is paired with, and what is left
pub record Entered (s : State) (k : ℕ) (r : List ℕ) (partner : ℕ) (after : State) : Type 0 where
  pub partner_is : partner ≡ paired_with s k r
  pub state_is : after ≡ (entered s k r).state
