-- What one exposure's step of a mark counts on and leaves.
-- Assumes nothing.
use Rattle.std.specs.Prelude.{◌≡◌, Bool, cond, List, ℕ, eqb, get_or}
use Rattle.baskets.specs.Fresh.{eligible_by}
use Rattle.baskets.specs.declared.Eligibility.{Eligibility}
use Rattle.book.specs.State.{State, state}
use Rattle.bonds.specs.Moves.{SoundBook}
use Rattle.eligibility.specs.Fresh.{SamePrices}
use Rattle.rules.specs.Marking.{moved}
use Rattle.marking_laws.specs.Pass.{on_used}

-- a step on one exposure: the book, sound and with the same securities and prices, and whether the exposure's position is another
pub record Stepped (step : State → ℕ → State) (columns before after : List ℕ) (e : ℕ) (has_moved : Bool) : Type 0 where
  pub book : SoundBook after columns
  pub kept : SamePrices (state before) (state after)
  pub stepped : state after ≡ on_used step (state before) e
  pub told : has_moved ≡ moved (state before) (state after) e

-- the nominals of a position that are not eligible
abbrev pub ineligible_in : List ℕ → List ℕ → Eligibility → ℕ → ℕ
ineligible_in position columns x i = cond (eligible_by x columns i) 0 (get_or position i 0)

-- what a position holds of a security may stay: it is eligible, or nothing is held
abbrev pub may_stay : List ℕ → List ℕ → Eligibility → ℕ → Bool
may_stay position columns x i = eqb (ineligible_in position columns x i) 0
