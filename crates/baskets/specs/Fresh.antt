-- Eligibility as the code tests it: by the day of a price's quote, found once for a day and a greatest age.
-- Assumes nothing.
use Rattle.std.specs.Prelude.{◌≡◌, Bool, ◌&&◌, List, ℕ, ◌≤◌, ◌<◌, leb, get_or}
use Rattle.calendar.specs.Target.{age}
use Rattle.laws.specs.Bits.{has_bit}
use Rattle.securities.specs.Security.{security_at, is_set_up}
use Rattle.securities.specs.declared.Security.{Security}
use Rattle.valuation.specs.Value.{value}
use Rattle.baskets.specs.declared.Basket.{Basket}
use Rattle.baskets.specs.declared.Eligibility.{Eligibility}

-- `qualifies` and `eligible` (Basket.antt), with the quote not before a day for the price not above an age
unfoldable pub qualifies_by : ℕ → Security → Bool
qualifies_by since s = is_set_up s && (leb since s.quote && leb 1 (value s.pricing s.lot))

unfoldable pub eligible_by : Eligibility → List ℕ → ℕ → Bool
eligible_by x columns i = has_bit x.map i && qualifies_by x.since (security_at columns i)

-- no security below n that is set up was quoted before a day
pub record NoneBefore (day n : ℕ) (columns : List ℕ) : Type 0 where
  pub none : (i : ℕ) → i < n → 0 < (security_at columns i).lot → day ≤ (security_at columns i).quote

-- of the securities that are set up, those quoted on a day or later are those with a price no older than the greatest age
pub record FreshSince (columns : List ℕ) (today oldest since : ℕ) : Type 0 where
  pub right : (i : ℕ) → i < 64 → 0 < (security_at columns i).lot → leb (age (security_at columns i).quote today) oldest ≡ leb since (security_at columns i).quote

-- such a day for each greatest age
pub record FreshAges (columns : List ℕ) (today most : ℕ) (days : List ℕ) : Type 0 where
  pub each : (g : ℕ) → g ≤ most → FreshSince columns today g (get_or days g 0)

-- such a day and the map of a basket
pub record EligibilityFor (b : Basket) (today : ℕ) (columns : List ℕ) (x : Eligibility) : Type 0 where
  pub map : x.map ≡ b.map
  pub fresh : FreshSince columns today b.oldest x.since
