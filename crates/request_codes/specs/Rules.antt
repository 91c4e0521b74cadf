-- The rules of a FOP and of a return in the groups that the code tests them in.
-- Assumes nothing.
use Rattle.std.specs.Prelude.{not, ◌&&◌, ◌||◌, List, [], ◌∷◌, ◌++◌, ℕ, eqb, leb, ltb}
use Rattle.calendar.specs.Target.{open_day}
use Rattle.book.specs.Layout.{today}
use Rattle.book.specs.State.{State}
use Rattle.rules.specs.Codes.{no_participant, no_basket, day_not_open, giver_is_taker, taker_needs_none, too_few_rows}
use Rattle.rules.specs.Outcome.{Rule, rule}
use Rattle.rules.specs.Requests.{free_exposure}
use Rattle.rules.specs.Requesting.{needs_exposure}
use Rattle.rules.specs.Fields.{giver_in, taker_in, basket_or_exposure_in, settlement_in, closing_in}

-- 5: the parties; of a FOP the basket too
abbrev pub party_rules : State → List ℕ → List Rule
party_rules s r = no_participant s (giver_in r) ∷ no_participant s (taker_in r) ∷ []

abbrev pub basket_name_rules : State → List ℕ → List Rule
basket_name_rules s r = no_basket s (basket_or_exposure_in r) ∷ []

-- 7: the settlement day; of a FOP the closing day too
abbrev pub settlement_rules : State → List ℕ → List Rule
settlement_rules s r = day_not_open (settlement_in r) ∷ rule (ltb (settlement_in r) (s today 0)) 7 ∷ []

abbrev pub closing_rules : List ℕ → List Rule
closing_rules r = rule (not (eqb (closing_in 6 r) 0) && (not (open_day (closing_in 6 r)) || leb (closing_in 6 r) (settlement_in r))) 7 ∷ []

-- 7 of a FOP; 5 and 7
abbrev pub fop_day_rules : State → List ℕ → List Rule
fop_day_rules s r = settlement_rules s r ++ closing_rules r

abbrev pub fop_name_rules : State → List ℕ → List Rule
fop_name_rules s r = party_rules s r ++ (basket_name_rules s r ++ fop_day_rules s r)

-- 8 and 9: the taker is another than the giver, and has to enter a request of its own
abbrev pub taker_rules : State → List ℕ → List Rule
taker_rules s r = giver_is_taker r ∷ taker_needs_none s r ∷ []

-- 14
abbrev pub row_rules : State → List ℕ → List Rule
row_rules s r = too_few_rows s r ∷ []

-- 15
abbrev pub exposure_rules : State → List ℕ → List Rule
exposure_rules s r = rule (needs_exposure s 6 r && eqb (free_exposure s) 64) 15 ∷ []
