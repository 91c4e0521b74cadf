-- What is known of the 64 securities, as four columns of 64 numbers: lots, prices, haircuts, quote days. A lot of 0 is a security not set up.
-- Assumes nothing.
use Rattle.std.specs.Prelude.{Bool, not, ◌&&◌, ◌||◌, List, ℕ, ◌+◌, eqb, leb, get_or}
use Rattle.limits.specs.Limits.{greatest_lot}
use Rattle.calendar.specs.Target.{open_day}
use Rattle.valuation.specs.Value.{legal_pricing}
use Rattle.laws.specs.Search.{all}
use Rattle.securities.specs.declared.Security as declared

-- the security i
abbrev pub security_at : List ℕ → ℕ → declared.Security
security_at columns i = record {
  lot = get_or columns i 0;
  pricing = record { price = get_or columns (64 + i) 0; haircut = get_or columns (128 + i) 0 };
  quote = get_or columns (192 + i) 0;
}

-- set up: it has a lot
abbrev pub has_lot : ℕ → Bool
has_lot lot = not (eqb lot 0)

abbrev pub is_set_up : declared.Security → Bool
is_set_up s = has_lot s.lot

-- a host's numbers of a security that is not set up: nothing but zeros
abbrev pub is_blank : declared.Security → Bool
is_blank s = eqb s.lot 0 && (eqb s.pricing.price 0 && (eqb s.pricing.haircut 0 && eqb s.quote 0))

-- and of one that is: "lot 32 (1 to 1,000,000)", price and haircut in their ranges
abbrev pub is_listed : declared.Security → Bool
is_listed s = leb 1 s.lot && (leb s.lot greatest_lot && legal_pricing s.pricing)

unfoldable pub legal_security : declared.Security → Bool
legal_security s = is_blank s || is_listed s

-- a host's quote days: open and not after today, where the security is set up
unfoldable pub legal_quote : ℕ → declared.Security → Bool
legal_quote today s = eqb s.lot 0 || (open_day s.quote && leb s.quote today)

-- the same of the security i
abbrev pub legal_at : List ℕ → ℕ → Bool
legal_at columns i = legal_security (security_at columns i)

abbrev pub quoted_at : ℕ → List ℕ → ℕ → Bool
quoted_at today columns i = legal_quote today (security_at columns i)

-- and of all 64
abbrev pub legal_securities : List ℕ → Bool
legal_securities columns = all (legal_at columns) 64 0

abbrev pub legal_quotes : ℕ → List ℕ → Bool
legal_quotes today columns = all (quoted_at today columns) 64 0
