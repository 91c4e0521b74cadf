-- Document 01, "Steps": which securities are eligible for a basket.
-- Assumes nothing.
use Rattle.std.specs.Prelude.{Bool, ◌&&◌, List, ℕ, leb}
use Rattle.calendar.specs.Target.{age}
use Rattle.laws.specs.Bits.{has_bit}
use Rattle.securities.specs.Security.{security_at, is_set_up}
use Rattle.securities.specs.declared.Security.{Security}
use Rattle.valuation.specs.Value.{value}
use Rattle.baskets.specs.declared.Basket as declared

-- of one security, apart from the map: "set up, price age not above the greatest age, one lot worth at least 1 cent"
unfoldable pub qualifies : ℕ → ℕ → Security → Bool
qualifies oldest today s = is_set_up s && (leb (age s.quote today) oldest && leb 1 (value s.pricing s.lot))

-- "Eligible for a basket: in its map, ..", for the security i
unfoldable pub eligible : declared.Basket → ℕ → List ℕ → ℕ → Bool
eligible b today columns i = has_bit b.map i && qualifies b.oldest today (security_at columns i)
