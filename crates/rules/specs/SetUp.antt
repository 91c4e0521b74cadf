-- Steps 0 to 5: opening, price, participant, basket, deposit, withdrawal.
-- Assumes nothing.
use Rattle.std.specs.Prelude.{cond, List, [], ◌∷◌, ℕ, ◌+◌, ◌*◌, ◌-◌}
use Rattle.book.specs.Layout.{accounts, head_tables, security_tables, profile_tables, waiting_tables, basket_tables}
use Rattle.book.specs.State.{State, put, put_row}
use Rattle.rules.specs.Fields.{stored_mode, opening_day, opening_tolerance, priced_security, price_lot, price_in, haircut_in, quote_day_in, participant_in, mode_in, list_in, partial_in, basket_in, map_in, greatest_age_in, account_owner, account_security, nominal_in}
use Rattle.rules.specs.Outcome.{Step, silent}
use Rattle.rules.specs.Stock.{participant_set_up}

-- 0: "the whole book becomes the empty one with that day and tolerance, next request number 1"
abbrev pub empty_state : State
empty_state f i = 0

unfoldable pub opened : List ℕ → Step
opened r = silent (put_row empty_state head_tables 0 (opening_day r ∷ opening_tolerance r ∷ 1 ∷ []))

-- 1: the last record counts; "a later record keeps the lot", since another lot is refused
unfoldable pub priced : State → List ℕ → Step
priced s r = silent (put_row s security_tables (priced_security r) (price_lot r ∷ price_in r ∷ haircut_in r ∷ quote_day_in r ∷ []))

-- 2: "first set-up holds from the call; a change holds from the next day, the last one of a day counting"
unfoldable pub enrolled : State → List ℕ → Step
enrolled s r =
    let p = participant_in r in
    let profile = stored_mode (mode_in r) ∷ list_in r ∷ partial_in r ∷ [] in
    silent (cond (participant_set_up s p) (put_row s waiting_tables p profile) (put_row s profile_tables p profile))

-- 3: "a basket never changes", since "basket again" is refused
unfoldable pub basket_made : State → List ℕ → Step
basket_made s r = silent (put_row s basket_tables (basket_in r) (map_in r ∷ greatest_age_in r ∷ []))

-- 4 and 5 "touch the account"
unfoldable pub deposited : State → List ℕ → Step
deposited s r = let k = 64 * account_owner r + account_security r in silent (put s accounts k (s accounts k + nominal_in r))

unfoldable pub withdrawn : State → List ℕ → Step
withdrawn s r = let k = 64 * account_owner r + account_security r in silent (put s accounts k (s accounts k - nominal_in r))
