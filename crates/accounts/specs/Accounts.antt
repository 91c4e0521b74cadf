-- What the steps of a deposit and a withdrawal count on, and the code that they share.
-- Assumes nothing.
use Rattle.std.specs.Prelude.{List, [], ◌∷◌, ℕ, ◌+◌, ◌*◌, ◌≤◌, ◌<◌}
use Rattle.book.specs.Layout.{accounts}
use Rattle.book.specs.State.{State}
use Rattle.rules.specs.Codes.{no_participant, no_security}
use Rattle.rules.specs.Outcome.{lowest}
use Rattle.rules.specs.Fields.{field}

-- 5 where the participant or the security is not set up
abbrev pub account_code : State → ℕ → ℕ → ℕ
account_code s p i = lowest (no_participant s p ∷ no_security s i ∷ [])

-- the account with the deposit fits four bytes
pub record AccountRoom (s : State) (r : List ℕ) : Type 0 where
  pub room : s accounts (64 * field r 0 + field r 1) + field r 2 < 4294967296

-- the account holds what is withdrawn
pub record AccountHolds (s : State) (r : List ℕ) : Type 0 where
  pub holds : field r 2 ≤ s accounts (64 * field r 0 + field r 1)
