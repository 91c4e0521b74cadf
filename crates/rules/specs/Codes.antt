-- Document 01, "Codes": for each kind the rules that can apply to a record in its ranges, "the lowest that applies" first.
-- 1, 2 and 3, and 4 by the reader's ranges, come before these (Call.antt).
-- Assumes nothing.
use Rattle.std.specs.Prelude.{◌≡◌, Bool, true, false, not, ◌&&◌, ◌||◌, cond, List, [], ◌∷◌, ◌++◌, ℕ, ◌+◌, ◌*◌, ◌%◌, eqb, leb, ltb, get_or}
use Rattle.limits.specs.Limits.{greatest_next, greatest_nominal}
use Rattle.laws.specs.Search.{count}
use Rattle.calendar.specs.Target.{last_day, open_day, next_open_day}
use Rattle.book.specs.Layout.{today, tolerance, next_number, lots, numbers, settled_amounts, exposure_givers, accounts, positions}
use Rattle.book.specs.State.{State}
use Rattle.rules.specs.Fields.{fop_kind, recall_kind, taker_side, opening_day, priced_security, price_lot, quote_day_in, basket_in, account_owner, account_security, nominal_in, side_in, giver_in, taker_in, basket_or_exposure_in, amount_in, settlement_in, closing_in, cancel_owner, cancel_number, recall_giver, recall_exposure, recall_security, recall_nominal}
use Rattle.rules.specs.Marking.{recall_accepted}
use Rattle.rules.specs.Outcome.{Rule, rule, lowest}
use Rattle.rules.specs.Requests.{accepts_giver, is_in_use, is_exposure_of, free_exposure}
use Rattle.rules.specs.Requesting.{rows_needed, needs_exposure, own_request}
use Rattle.rules.specs.Stock.{participant_set_up, security_set_up, basket_set_up, holding}

-- code 5: "participant, security or basket not set up"
abbrev pub no_participant : State → ℕ → Rule
no_participant s p = rule (not (participant_set_up s p)) 5

abbrev pub no_security : State → ℕ → Rule
no_security s i = rule (not (security_set_up s i)) 5

abbrev pub no_basket : State → ℕ → Rule
no_basket s b = rule (not (basket_set_up s b)) 5

-- code 7: "any day named .. not open or above 146,096"
abbrev pub day_not_open : ℕ → Rule
day_not_open d = rule (not (open_day d)) 7

-- kind 0: a day that is not open
unfoldable pub opening_rules : List ℕ → List Rule
opening_rules r = day_not_open (opening_day r) ∷ []

-- kind 1: "price with another lot"; quote day not open; "quote after today"
unfoldable pub price_rules : State → List ℕ → List Rule
price_rules s r =
    rule (security_set_up s (priced_security r) && not (eqb (s lots (priced_security r)) (price_lot r))) 6
    ∷ day_not_open (quote_day_in r)
    ∷ rule (ltb (s today 0) (quote_day_in r)) 7
    ∷ []

-- kind 3: "basket again"
unfoldable pub basket_rules : State → List ℕ → List Rule
basket_rules s r = rule (basket_set_up s (basket_in r)) 6 ∷ []

-- kind 4: not set up; "deposit takes account plus positions above 500,000,000"
unfoldable pub deposit_rules : State → List ℕ → List Rule
deposit_rules s r =
    no_participant s (account_owner r)
    ∷ no_security s (account_security r)
    ∷ rule (ltb greatest_nominal (holding s (account_owner r) (account_security r) + nominal_in r)) 11
    ∷ []

-- kind 5: not set up; "more than the account .. holds"
unfoldable pub withdrawal_rules : State → List ℕ → List Rule
withdrawal_rules s r =
    no_participant s (account_owner r)
    ∷ no_security s (account_security r)
    ∷ rule (ltb (s accounts (64 * account_owner r + account_security r)) (nominal_in r)) 10
    ∷ []

-- code 14: "too few request rows, or numbers above 999,999,999"
abbrev pub too_few_rows : State → List ℕ → Rule
too_few_rows s r = rule (ltb (count (λ i. eqb (s numbers i) 0) 256 0) (rows_needed s r) || ltb greatest_next (s next_number 0 + rows_needed s r)) 14

-- code 8: "giver equals taker"
abbrev pub giver_is_taker : List ℕ → Rule
giver_is_taker r = rule (eqb (giver_in r) (taker_in r)) 8

-- code 9: "taker's own request where it accepts that giver automatically"
abbrev pub taker_needs_none : State → List ℕ → Rule
taker_needs_none s r = rule (eqb (side_in r) taker_side && accepts_giver s (taker_in r) (giver_in r)) 9

-- kind 6: the amount is from the tolerance on; "settlement before today; closing not after settlement"; code 15: "pairing needs an exposure row and none is free"
unfoldable pub fop_rules : State → List ℕ → List Rule
fop_rules s r =
    rule (ltb (amount_in r) (s tolerance 0)) 4
    ∷ no_participant s (giver_in r)
    ∷ no_participant s (taker_in r)
    ∷ no_basket s (basket_or_exposure_in r)
    ∷ day_not_open (settlement_in r)
    ∷ rule (ltb (settlement_in r) (s today 0)) 7
    ∷ rule (not (eqb (closing_in fop_kind r) 0) && (not (open_day (closing_in fop_kind r)) || leb (closing_in fop_kind r) (settlement_in r))) 7
    ∷ giver_is_taker r
    ∷ taker_needs_none s r
    ∷ too_few_rows s r
    ∷ rule (needs_exposure s fop_kind r && eqb (free_exposure s) 64) 15
    ∷ []

-- kind 7; code 12: "no used exposure of that giver (and taker)"
unfoldable pub return_rules : State → List ℕ → List Rule
return_rules s r =
    no_participant s (giver_in r)
    ∷ no_participant s (taker_in r)
    ∷ day_not_open (settlement_in r)
    ∷ rule (ltb (settlement_in r) (s today 0)) 7
    ∷ giver_is_taker r
    ∷ taker_needs_none s r
    ∷ rule (not (is_exposure_of s (giver_in r) (taker_in r) (basket_or_exposure_in r))) 12
    ∷ too_few_rows s r
    ∷ []

-- kind 8: "no such live request of that owner"; "cancel of a request settled in part or whole": a whole settled row gives its owner 13
unfoldable pub cancel_rules : State → List ℕ → List Rule
cancel_rules s r =
    no_participant s (cancel_owner r)
    ∷ rule (eqb (own_request s (cancel_owner r) (cancel_number r)) 256) 12
    ∷ rule (not (eqb (s settled_amounts (own_request s (cancel_owner r) (cancel_number r))) 0)) 13
    ∷ []

-- kind 11: "recall of a set-up security not in its whole lots"; "For kind 11, 12 comes before 10"
unfoldable pub recall_rules : State → List ℕ → List Rule
recall_rules s r =
    rule (security_set_up s (recall_security r) && not (eqb (recall_nominal r % s lots (recall_security r)) 0)) 4
    ∷ no_participant s (recall_giver r)
    ∷ no_security s (recall_security r)
    ∷ rule (not (is_in_use s (recall_exposure r) && eqb (s exposure_givers (recall_exposure r)) (recall_giver r))) 12
    ∷ rule (ltb (s positions (64 * recall_exposure r + recall_security r)) (recall_nominal r)) 10
    ∷ rule (not (recall_accepted s r)) 16
    ∷ []

-- kind 12: "no next day"
unfoldable pub next_day_rules : State → List Rule
next_day_rules s = rule (ltb last_day (next_open_day (s today 0))) 7 ∷ []

-- the rules of the kinds 0 to 12; 2 participant, 9 settle and 10 mark have none: a list, like a map, may have bits of those not set up
abbrev pub rules_of : State → List ℕ → List (List Rule)
rules_of s r =
    opening_rules r
    ∷ price_rules s r
    ∷ []
    ∷ basket_rules s r
    ∷ deposit_rules s r
    ∷ withdrawal_rules s r
    ∷ fop_rules s r
    ∷ return_rules s r
    ∷ cancel_rules s r
    ∷ []
    ∷ []
    ∷ recall_rules s r
    ∷ next_day_rules s
    ∷ []

-- code 3: a kind that this list does not have
abbrev pub unknown_kind : List Rule
unknown_kind = rule true 3 ∷ []

-- the code of a record in its ranges, 0 where it is accepted
unfoldable pub code_of : State → ℕ → List ℕ → ℕ
code_of s k r = lowest (get_or (rules_of s r) k unknown_kind)

-- the codes in their order of precedence; "For kind 11, 12 comes before 10"
abbrev pub precedence_of : ℕ → List ℕ
precedence_of k =
    1 ∷ 2 ∷ 3 ∷ 4 ∷ 5 ∷ 6 ∷ 7 ∷ 8 ∷ 9
    ∷ cond (eqb k recall_kind) (12 ∷ 10 ∷ 11 ∷ []) (10 ∷ 11 ∷ 12 ∷ [])
    ++ (13 ∷ 14 ∷ 15 ∷ 16 ∷ [])

-- going down the rules, their codes never go back in the order
abbrev pub in_precedence : List ℕ → List Rule → Bool
in_precedence [] [] = true
in_precedence [] (r ∷ rs) = false
in_precedence (c ∷ cs) [] = true
in_precedence (c ∷ cs) (r ∷ rs) = cond (eqb r.code c) (in_precedence (c ∷ cs) rs) (in_precedence cs (r ∷ rs))

-- every kind's rules stand in the order of precedence, so that the first that applies is "the lowest that applies"
abbrev pub RulesInPrecedence : Type 0
RulesInPrecedence = (s : State) (k : ℕ) (r : List ℕ) → in_precedence (precedence_of k) (get_or (rules_of s r) k unknown_kind) ≡ true
