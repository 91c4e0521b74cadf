-- The reads: "an account's or position's nominal of one security, an exposure, a request by its number, or a basket".
-- "A read refuses with 1, 2, 4 or 5 (a row not in use counts as 5)." That a read changes no byte is the ledger's `book_next`.
-- Assumes nothing.
use Rattle.std.specs.Prelude.{◌≡◌, Bool, true, not, ◌&&◌, ◌||◌, cond, List, [], ◌∷◌, ◌++◌, ℕ, ◌+◌, ◌*◌, eqb, leb, length, replicate, drop}
use Rattle.laws.specs.Bits.{has_bit}
use Rattle.laws.specs.Search.{least, count}
use Rattle.book.specs.Layout.{book_length, rows_of, lots, modes, maps, numbers, partners, in_use, exposure_amounts, accounts, positions, basket_tables, request_tables, key_tables}
use Rattle.book.specs.State.{State, state, row_in}
use Rattle.rules.specs.Codes.{in_precedence}
use Rattle.rules.specs.Outcome.{Rule, rule, lowest}
use Rattle.rules.specs.Requests.{is_used, is_paired, partner_of, is_in_use}
use Rattle.rules.specs.Sound.{sound}
use Rattle.rules.specs.Stock.{participant_set_up, security_set_up, basket_set_up}

-- the kinds of reads with their arguments
pub data Read : Type 0 where
  account : ℕ → ℕ → Read
  position : ℕ → ℕ → Read
  exposure : ℕ → Read
  request : ℕ → Read
  basket : ℕ → Read

-- the row of a request by its number, 256 where there is none
abbrev pub row_of : State → ℕ → ℕ
row_of s n = least (λ i. is_used s i && eqb (s numbers i) n) 256 0

-- 4 and 5 of a row: a number past the table's rows; a row not set up, or not in use
abbrev pub row_rules : ℕ → ℕ → Bool → List Rule
row_rules f x used = rule (leb (rows_of f) x) 4 ∷ rule (not used) 5 ∷ []

-- and of a row with a security
abbrev pub nominal_rules : State → ℕ → ℕ → Bool → ℕ → List Rule
nominal_rules s f x used i = rule (leb (rows_of f) x || leb (rows_of lots) i) 4 ∷ rule (not (used && security_set_up s i)) 5 ∷ []

-- 4 and 5 of each
abbrev pub read_rules : State → Read → List Rule
read_rules s (account p i) = nominal_rules s modes p (participant_set_up s p) i
read_rules s (position e i) = nominal_rules s in_use e (is_in_use s e) i
read_rules s (exposure e) = row_rules in_use e (is_in_use s e)
read_rules s (request n) = rule (eqb (row_of s n) 256) 5 ∷ []
read_rules s (basket b) = row_rules maps b (basket_set_up s b)

-- the code of a read
unfoldable pub read_code : List ℕ → Read → ℕ
read_code book q =
    cond (not (eqb (length book) book_length)) 1 (cond (not (sound (state book))) 2 (lowest (read_rules (state book) q)))

-- the number of a request's partner, 0 where unpaired
abbrev pub partner_number : State → ℕ → ℕ
partner_number s i = cond (is_paired s i) (s numbers (partner_of s i)) 0

-- a request's fields as a read gives them: the partner by its number
abbrev pub shown : State → State
shown s f i = cond (eqb f partners) (partner_number s i) (s f i)

-- what an accepted read gives: the nominal; the exposure's key and amount; the request's fields, its number being known; the basket's map,
-- greatest age and report
abbrev pub read_values : State → Read → List ℕ
read_values s (account p i) = s accounts (64 * p + i) ∷ []
read_values s (position e i) = s positions (64 * e + i) ∷ []
read_values s (exposure e) = row_in s (key_tables ++ (exposure_amounts ∷ [])) e
read_values s (request n) = row_in (shown s) (drop 1 request_tables) (row_of s n)
read_values s (basket b) = row_in s basket_tables b ++ (count (has_bit (s maps b)) 64 0 ∷ least (has_bit (s maps b)) 64 0 ∷ [])

-- the whole answer of a read: its code, then its values, or as many zeros
unfoldable pub read_answer : List ℕ → Read → List ℕ
read_answer book q =
    let values = read_values (state book) q in
    read_code book q ∷ cond (eqb (read_code book q) 0) values (replicate (length values) 0)

-- "A read refuses with 1, 2, 4 or 5": its own rules stand in that order
abbrev pub ReadRulesInPrecedence : Type 0
ReadRulesInPrecedence = (s : State) (q : Read) → in_precedence (4 ∷ 5 ∷ []) (read_rules s q) ≡ true
