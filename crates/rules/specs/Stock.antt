-- Accounts, positions and securities: what a Pick or a Free is given out of the state, and how bonds move.
-- Assumes nothing.
use Rattle.std.specs.Prelude.{Bool, not, ◌&&◌, cond, List, ℕ, ◌+◌, ◌*◌, eqb}
use Rattle.baskets.specs.Basket.{eligible}
use Rattle.baskets.specs.declared.Basket.{Basket}
use Rattle.book.specs.Layout.{today, lots, modes, maps, greatest_ages, accounts, positions, exposure_givers, exposure_baskets}
use Rattle.book.specs.State.{State, row_at, columns_of, raised, lowered}
use Rattle.laws.specs.Sum.{sum}
use Rattle.picking.specs.Free.{freed}
use Rattle.picking.specs.Pick.{picked}
use Rattle.picking.specs.declared.Freed.{Freed}
use Rattle.picking.specs.declared.Outcome.{Outcome}
use Rattle.rules.specs.Requests.{is_in_use}
use Rattle.securities.specs.Position.{worth, nominals_of}
use Rattle.securities.specs.Security.{has_lot}

-- set up: a participant has a mode, a security a lot, a basket a map
abbrev pub participant_set_up : State → ℕ → Bool
participant_set_up s p = not (eqb (s modes p) 0)

abbrev pub security_set_up : State → ℕ → Bool
security_set_up s i = has_lot (s lots i)

abbrev pub basket_set_up : State → ℕ → Bool
basket_set_up s b = not (eqb (s maps b) 0)

-- the account of a participant and the position of an exposure, a nominal for each of the 64 securities
abbrev pub account_of : State → ℕ → List ℕ
account_of s p = row_at s accounts (64 * p)

abbrev pub position_of : State → ℕ → List ℕ
position_of s e = row_at s positions (64 * e)

-- "A position's value"
abbrev pub value_of : State → ℕ → ℕ
value_of s e = worth (columns_of s) (nominals_of (position_of s e))

-- the basket of an exposure, and the securities eligible for it today
abbrev pub basket_of : State → ℕ → Basket
basket_of s e = record { map = s maps (s exposure_baskets e); oldest = s greatest_ages (s exposure_baskets e) }

abbrev pub eligible_for : State → ℕ → ℕ → Bool
eligible_for s e i = eligible (basket_of s e) (s today 0) (columns_of s) i

-- Pick an amount for an exposure from its giver's account, out of the securities that pass a test
abbrev pub pick_for : State → ℕ → (ℕ → Bool) → ℕ → Outcome
pick_for s e test amount = picked (columns_of s) (account_of s (s exposure_givers e)) test amount

-- bonds go from the giver's account into the exposure's position, and back
abbrev pub pledge : State → ℕ → List ℕ → State
pledge s e nominals = raised (lowered s accounts (64 * s exposure_givers e) nominals) positions (64 * e) nominals

abbrev pub give_back : State → ℕ → List ℕ → State
give_back s e nominals = raised (lowered s positions (64 * e) nominals) accounts (64 * s exposure_givers e) nominals

-- Free an exposure's position down to an amount
abbrev pub free_for : State → ℕ → ℕ → Freed
free_for s e amount = freed (columns_of s) (position_of s e) amount

-- "account plus positions of a giver in one security"
abbrev pub position_from : State → ℕ → ℕ → ℕ → ℕ
position_from s p i e = cond (is_in_use s e && eqb (s exposure_givers e) p) (s positions (64 * e + i)) 0

unfoldable pub holding : State → ℕ → ℕ → ℕ
holding s p i = s accounts (64 * p + i) + sum (position_from s p i) 64
