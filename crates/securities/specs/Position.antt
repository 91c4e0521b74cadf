-- A position or an account: a nominal for each of the 64 securities.
-- Assumes nothing.
use Rattle.std.specs.Prelude.{Bool, List, ℕ, get_or}
use Rattle.laws.specs.Search.{all}
use Rattle.laws.specs.Sum.{sum}
use Rattle.valuation.specs.Value.{value, legal_nominal}
use Rattle.securities.specs.Security.{security_at}

-- the value of one security of a position, at its whole nominal
abbrev pub value_at : List ℕ → (ℕ → ℕ) → ℕ → ℕ
value_at columns nominal i = value (security_at columns i).pricing (nominal i)

-- "A position's value is the sum over its securities, each at its whole nominal and last price."
unfoldable pub worth : List ℕ → (ℕ → ℕ) → ℕ
worth columns nominal = sum (value_at columns nominal) 64

-- the nominals of a list
abbrev pub nominals_of : List ℕ → ℕ → ℕ
nominals_of l i = get_or l i 0

-- a host's nominals
abbrev pub legal_nominal_at : List ℕ → ℕ → Bool
legal_nominal_at l i = legal_nominal (get_or l i 0)

abbrev pub legal_nominals : List ℕ → Bool
legal_nominals l = all (legal_nominal_at l) 64 0
