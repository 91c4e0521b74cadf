-- One pair: what settling it counts on, and what settles of a FOP.
-- Assumes nothing.
use Rattle.std.specs.Prelude.{cond, ℕ, ◌+◌, ◌-◌, ◌≤◌, ◌<◌, eqb, ltb}
use Rattle.limits.specs.Limits.{greatest_amount}
use Rattle.book.specs.Layout.{tolerance, settled_amounts, partners, pair_partials}
use Rattle.book.specs.State.{State}
use Rattle.rules.specs.Requests.{partner_of}

-- both rows can take so much more
pub record Settleable (s : State) (i x : ℕ) : Type 0 where
  pub below : i < 256
  pub paired : 0 < s partners i
  pub partner : partner_of s i < 256
  pub own : s settled_amounts i + x ≤ greatest_amount
  pub other : s settled_amounts (partner_of s i) + x ≤ greatest_amount

-- what a FOP settles of its rest, for the value found: the cases of `fop_amount` after the limit of an exposure
abbrev pub amount_for : State → ℕ → ℕ → ℕ → ℕ
amount_for s i rest found = cond (ltb (rest - found) (s tolerance 0)) rest (cond (eqb (s pair_partials i) 1) found 0)
