-- The book's layout: numbered tables, one for each field, one after the other. docs/LAYOUT.md says the same in prose.
-- Assumes nothing.
use Rattle.std.specs.Prelude.{Bool, true, ◌≡◌, List, [], ◌∷◌, ◌++◌, ℕ, zero, suc, ◌+◌, ◌*◌, eqb, get_or}
use Rattle.laws.specs.Lists.{every}
use Rattle.laws.specs.Sum.{sum}

-- a table: its rows, and the bytes of each
pub record Table : Type 0 where
  pub rows : ℕ
  pub bytes : ℕ

abbrev table : ℕ → ℕ → Table
table r b = record { rows = r; bytes = b }

-- "The book is 49,152 bytes"
abbrev pub book_length : ℕ
book_length = 49152

-- today
abbrev pub today : ℕ
today = 0

-- tolerance
abbrev pub tolerance : ℕ
tolerance = 1

-- the next request number to be given
abbrev pub next_number : ℕ
next_number = 2

-- securities: the lot, 0 where not set up
abbrev pub lots : ℕ
lots = 3

-- the price
abbrev pub prices : ℕ
prices = 4

-- the haircut
abbrev pub haircuts : ℕ
haircuts = 5

-- the quote day
abbrev pub quote_days : ℕ
quote_days = 6

-- participants, the profile in force: 1 automatic, 2 list, 3 by hand, 0 where not set up
abbrev pub modes : ℕ
modes = 7

-- the list, bit n is giver n
abbrev pub lists : ℕ
lists = 8

-- 1 where partial settlement is allowed
abbrev pub partials : ℕ
partials = 9

-- the change that waits for the next day: the same, 0 where none waits
abbrev pub waiting_modes : ℕ
waiting_modes = 10

-- its list
abbrev pub waiting_lists : ℕ
waiting_lists = 11

-- its partial
abbrev pub waiting_partials : ℕ
waiting_partials = 12

-- baskets: the map, 0 where not set up
abbrev pub maps : ℕ
maps = 13

-- the greatest age
abbrev pub greatest_ages : ℕ
greatest_ages = 14

-- requests: the number, 0 where the row is not used
abbrev pub numbers : ℕ
numbers = 15

-- 6 for a FOP, 7 for a return
abbrev pub request_kinds : ℕ
request_kinds = 16

-- 0 giver, 1 taker
abbrev pub sides : ℕ
sides = 17

-- the giver
abbrev pub givers : ℕ
givers = 18

-- the taker
abbrev pub takers : ℕ
takers = 19

-- the basket of a FOP, the exposure of a return
abbrev pub baskets_or_exposures : ℕ
baskets_or_exposures = 20

-- the amount
abbrev pub amounts : ℕ
amounts = 21

-- the settlement day
abbrev pub settlements : ℕ
settlements = 22

-- the closing day, 0 where none
abbrev pub closings : ℕ
closings = 23

-- the reference
abbrev pub references : ℕ
references = 24

-- the amount settled so far
abbrev pub settled_amounts : ℕ
settled_amounts = 25

-- one more than the partner's row, 0 where unpaired
abbrev pub partners : ℕ
partners = 26

-- 1 where both parties allowed partial when they paired
abbrev pub pair_partials : ℕ
pair_partials = 27

-- 1 where its owner has cancelled it while paired
abbrev pub cancels : ℕ
cancels = 28

-- 1 where it has ended
abbrev pub ends : ℕ
ends = 29

-- exposures: 1 where the row is used
abbrev pub in_use : ℕ
in_use = 30

-- the giver
abbrev pub exposure_givers : ℕ
exposure_givers = 31

-- the taker
abbrev pub exposure_takers : ℕ
exposure_takers = 32

-- the basket
abbrev pub exposure_baskets : ℕ
exposure_baskets = 33

-- the closing day, 0 where none
abbrev pub exposure_closings : ℕ
exposure_closings = 34

-- the amount
abbrev pub exposure_amounts : ℕ
exposure_amounts = 35

-- accounts: the nominal of security i of participant p, at 64 p + i
abbrev pub accounts : ℕ
accounts = 36

-- positions: the nominal of security i in exposure e, at 64 e + i
abbrev pub positions : ℕ
positions = 37

-- nothing: always 0
abbrev pub spares : ℕ
spares = 38

abbrev pub table_count : ℕ
table_count = 39

-- the tables in their order
abbrev pub layout : List Table
layout =
    table 1 4
    ∷ table 1 4
    ∷ table 1 4
    ∷ table 64 4
    ∷ table 64 4
    ∷ table 64 4
    ∷ table 64 4
    ∷ table 32 4
    ∷ table 32 4
    ∷ table 32 4
    ∷ table 32 4
    ∷ table 32 4
    ∷ table 32 4
    ∷ table 16 8
    ∷ table 16 4
    ∷ table 256 4
    ∷ table 256 4
    ∷ table 256 4
    ∷ table 256 4
    ∷ table 256 4
    ∷ table 256 4
    ∷ table 256 8
    ∷ table 256 4
    ∷ table 256 4
    ∷ table 256 8
    ∷ table 256 8
    ∷ table 256 4
    ∷ table 256 4
    ∷ table 256 4
    ∷ table 256 4
    ∷ table 64 4
    ∷ table 64 4
    ∷ table 64 4
    ∷ table 64 4
    ∷ table 64 4
    ∷ table 64 8
    ∷ table 2048 4
    ∷ table 4096 4
    ∷ table 589 4
    ∷ []

-- n tables one after the other, from one on
abbrev pub tables_from : ℕ → ℕ → List ℕ
tables_from zero f = []
tables_from (suc n) f = f ∷ tables_from n (suc f)

-- the tables of one thing, by name; every table stands in one of these groups (TablesNamed)
abbrev pub head_tables : List ℕ
head_tables = today ∷ tolerance ∷ next_number ∷ []

abbrev pub security_tables : List ℕ
security_tables = lots ∷ prices ∷ haircuts ∷ quote_days ∷ []

abbrev pub profile_tables : List ℕ
profile_tables = modes ∷ lists ∷ partials ∷ []

abbrev pub waiting_tables : List ℕ
waiting_tables = waiting_modes ∷ waiting_lists ∷ waiting_partials ∷ []

abbrev pub basket_tables : List ℕ
basket_tables = maps ∷ greatest_ages ∷ []

-- what the two requests of a pair agree on: "all fields but side and reference", beside their kind
abbrev pub term_tables : List ℕ
term_tables = givers ∷ takers ∷ baskets_or_exposures ∷ amounts ∷ settlements ∷ closings ∷ []

-- a request: what is entered, and what it has come to
abbrev pub request_tables : List ℕ
request_tables = numbers ∷ request_kinds ∷ sides ∷ (term_tables ++ (references ∷ settled_amounts ∷ partners ∷ pair_partials ∷ cancels ∷ ends ∷ []))

-- an exposure's key: "its giver, taker, basket and closing date"
abbrev pub key_tables : List ℕ
key_tables = exposure_givers ∷ exposure_takers ∷ exposure_baskets ∷ exposure_closings ∷ []

abbrev pub exposure_tables : List ℕ
exposure_tables = in_use ∷ (key_tables ++ (exposure_amounts ∷ []))

-- all tables, group by group
abbrev pub all_tables : List ℕ
all_tables =
    head_tables
    ++ (security_tables
    ++ (profile_tables ++ (waiting_tables ++ (basket_tables ++ (request_tables ++ (exposure_tables ++ (accounts ∷ positions ∷ spares ∷ [])))))))

abbrev pub rows_of : ℕ → ℕ
rows_of f = (get_or layout f (table 0 0)).rows

abbrev pub width_of : ℕ → ℕ
width_of f = (get_or layout f (table 0 0)).bytes

abbrev pub size_of : ℕ → ℕ
size_of f = rows_of f * width_of f

-- where a table begins: after the tables before it
unfoldable pub base_of : ℕ → ℕ
base_of f = sum size_of f

-- where the row i of a table stands
abbrev pub place_of : ℕ → ℕ → ℕ
place_of f i = base_of f + width_of f * i

-- each of some tables has n rows
abbrev pub have_rows : ℕ → List ℕ → Bool
have_rows n tables = every (λ f. eqb (rows_of f) n) tables

-- every table stands in one group, which has a row for each of its things ("32 participants (0 to 31), 64 securities, 16 baskets, 256 request
-- rows, 64 exposures"); the spare rows fill the book
pub record TablesNamed : Type 0 where
  pub named : all_tables ≡ tables_from table_count 0
  pub head : have_rows 1 head_tables ≡ true
  pub securities : have_rows 64 security_tables ≡ true
  pub participants : have_rows 32 (profile_tables ++ waiting_tables) ≡ true
  pub baskets : have_rows 16 basket_tables ≡ true
  pub requests : have_rows 256 request_tables ≡ true
  pub exposures : have_rows 64 exposure_tables ≡ true
  pub holdings : (rows_of accounts ≡ 32 * 64) × (rows_of positions ≡ 64 * 64)
  pub filled : place_of spares (rows_of spares) ≡ book_length
