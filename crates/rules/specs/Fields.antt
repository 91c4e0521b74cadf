-- Document 01, "Records": the kinds, the modes and the fields of each kind by name.
-- Assumes nothing.
use Rattle.std.specs.Prelude.{cond, List, [], ◌∷◌, ℕ, ◌+◌, eqb, get_or}

-- the kinds that a rule or the ledger speaks of
abbrev pub opening_kind : ℕ
opening_kind = 0

abbrev pub deposit_kind : ℕ
deposit_kind = 4

abbrev pub withdrawal_kind : ℕ
withdrawal_kind = 5

abbrev pub fop_kind : ℕ
fop_kind = 6

abbrev pub return_kind : ℕ
return_kind = 7

abbrev pub recall_kind : ℕ
recall_kind = 11

-- "mode 8 (0 automatic, 1 list, 2 by hand)"; the book keeps one more, since 0 marks a participant that is not set up
abbrev pub automatic : ℕ
automatic = 0

abbrev pub by_list : ℕ
by_list = 1

abbrev pub by_hand : ℕ
by_hand = 2

abbrev pub stored_mode : ℕ → ℕ
stored_mode mode = mode + 1

-- "side 8 (0 giver, 1 taker)"
abbrev pub giver_side : ℕ
giver_side = 0

abbrev pub taker_side : ℕ
taker_side = 1

-- the field j of a record's body
abbrev pub field : List ℕ → ℕ → ℕ
field r j = get_or r j 0

-- 0 opening
abbrev pub opening_day : List ℕ → ℕ
opening_day r = field r 0

abbrev pub opening_tolerance : List ℕ → ℕ
opening_tolerance r = field r 1

-- 1 price
abbrev pub priced_security : List ℕ → ℕ
priced_security r = field r 0

abbrev pub price_lot : List ℕ → ℕ
price_lot r = field r 1

abbrev pub price_in : List ℕ → ℕ
price_in r = field r 2

abbrev pub haircut_in : List ℕ → ℕ
haircut_in r = field r 3

abbrev pub quote_day_in : List ℕ → ℕ
quote_day_in r = field r 4

-- 2 participant
abbrev pub participant_in : List ℕ → ℕ
participant_in r = field r 0

abbrev pub mode_in : List ℕ → ℕ
mode_in r = field r 1

abbrev pub list_in : List ℕ → ℕ
list_in r = field r 2

abbrev pub partial_in : List ℕ → ℕ
partial_in r = field r 3

-- 3 basket
abbrev pub basket_in : List ℕ → ℕ
basket_in r = field r 0

abbrev pub map_in : List ℕ → ℕ
map_in r = field r 1

abbrev pub greatest_age_in : List ℕ → ℕ
greatest_age_in r = field r 2

-- 4 deposit, 5 withdrawal
abbrev pub account_owner : List ℕ → ℕ
account_owner r = field r 0

abbrev pub account_security : List ℕ → ℕ
account_security r = field r 1

abbrev pub nominal_in : List ℕ → ℕ
nominal_in r = field r 2

-- 6 FOP, 7 return: a return names an exposure where a FOP names its basket, and has no closing
abbrev pub side_in : List ℕ → ℕ
side_in r = field r 0

abbrev pub giver_in : List ℕ → ℕ
giver_in r = field r 1

abbrev pub taker_in : List ℕ → ℕ
taker_in r = field r 2

abbrev pub basket_or_exposure_in : List ℕ → ℕ
basket_or_exposure_in r = field r 3

abbrev pub amount_in : List ℕ → ℕ
amount_in r = field r 4

abbrev pub settlement_in : List ℕ → ℕ
settlement_in r = field r 5

abbrev pub closing_in : ℕ → List ℕ → ℕ
closing_in k r = cond (eqb k fop_kind) (field r 6) 0

abbrev pub reference_in : ℕ → List ℕ → ℕ
reference_in k r = cond (eqb k fop_kind) (field r 7) (field r 6)

-- the record's numbers for the tables of the terms
abbrev pub terms_in : ℕ → List ℕ → List ℕ
terms_in k r = giver_in r ∷ taker_in r ∷ basket_or_exposure_in r ∷ amount_in r ∷ settlement_in r ∷ closing_in k r ∷ []

-- 8 cancel
abbrev pub cancel_owner : List ℕ → ℕ
cancel_owner r = field r 0

abbrev pub cancel_number : List ℕ → ℕ
cancel_number r = field r 1

-- 11 recall
abbrev pub recall_giver : List ℕ → ℕ
recall_giver r = field r 0

abbrev pub recall_exposure : List ℕ → ℕ
recall_exposure r = field r 1

abbrev pub recall_security : List ℕ → ℕ
recall_security r = field r 2

abbrev pub recall_nominal : List ℕ → ℕ
recall_nominal r = field r 3
