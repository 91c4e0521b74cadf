-- Step 12: next day.
-- Assumes nothing.
use Rattle.std.specs.Prelude.{Bool, not, ◌&&◌, ◌||◌, cond, List, [], ◌∷◌, ◌++◌, ℕ, zero, suc, ◌+◌, eqb, leb}
use Rattle.laws.specs.Search.{all, count}
use Rattle.laws.specs.Sum.{sum}
use Rattle.calendar.specs.Target.{next_open_day}
use Rattle.book.specs.Layout.{today, waiting_modes, waiting_lists, waiting_partials, givers, takers, baskets_or_exposures, settlements, closings, ends, exposure_closings, exposure_amounts, profile_tables, waiting_tables, request_tables, exposure_tables}
use Rattle.book.specs.State.{State, put, put_row, clear_row}
use Rattle.rules.specs.Outcome.{Step, Event, closed}
use Rattle.rules.specs.Requests.{is_used, is_fop, is_return, is_paired, is_whole, is_in_use, has_key}
use Rattle.rules.specs.Stock.{position_of, give_back}

-- a step on each of the numbers below n that pass a test, in rising order
unfoldable pub on_each : (ℕ → Bool) → (State → ℕ → State) → ℕ → State → State
on_each test step zero s = s
on_each test step (suc i) s = let t = on_each test step i s in cond (test i) (step t i) t

-- a dropped row holds nothing
abbrev pub row_dropped : State → ℕ → State
row_dropped s i = clear_row s request_tables i

-- the rows that pass a test of the state before the pass are dropped
unfoldable pub rows_dropped : (State → ℕ → Bool) → State → State
rows_dropped test s = on_each (test s) row_dropped 256 s

-- "drop settled and ended rows, and unpaired rows with settlement up to today"
abbrev pub is_done : State → ℕ → Bool
is_done s i = is_used s i && (is_whole s i || (eqb (s ends i) 1 || (not (is_paired s i) && leb (s settlements i) (s today 0))))

-- "a change holds from the next day": the profile that waits comes into force
abbrev pub change_takes_effect : State → ℕ → State
change_takes_effect s p = clear_row (put_row s profile_tables p (s waiting_modes p ∷ s waiting_lists p ∷ s waiting_partials p ∷ [])) waiting_tables p

-- of every participant whose change waits
unfoldable pub profiles_changed : State → State
profiles_changed s = on_each (λ p. not (eqb (s waiting_modes p) 0)) change_takes_effect 32 s

-- "go to the next open day"; with it the profiles that waited come into force
unfoldable pub on_next_day : State → State
on_next_day s = profiles_changed (put s today 0 (next_open_day (s today 0)))

-- "closing date reached"; 0 never is
abbrev pub is_reached : State → ℕ → Bool
is_reached s closing = not (eqb closing 0) && leb closing (s today 0)

-- "drop FOP pairs with closing date reached"
abbrev pub is_closed_fop : State → ℕ → Bool
is_closed_fop s i = is_used s i && (is_fop s i && (is_paired s i && is_reached s (s closings i)))

-- "zero exposures with closing date reached, give back their positions"
abbrev pub is_exposure_closed : State → ℕ → Bool
is_exposure_closed s e = is_in_use s e && is_reached s (s exposure_closings e)

-- one of them: its position given back, its amount zeroed
abbrev pub exposure_closed : State → ℕ → State
exposure_closed s e = put (give_back s e (position_of s e)) exposure_amounts e 0

-- all of them, by rising number
unfoldable pub exposures_closed : State → State
exposures_closed s = on_each (is_exposure_closed s) exposure_closed 64 s

-- "drop returns naming them"
abbrev pub is_closed_return : State → ℕ → Bool
is_closed_return s i = is_used s i && (is_return s i && is_exposure_closed s (s baskets_or_exposures i))

-- "a return belongs to the one it names", a FOP pair to the one with its key
abbrev pub belongs : State → ℕ → ℕ → Bool
belongs s e i =
    is_used s i
    && ((is_return s i && eqb (s baskets_or_exposures i) e)
    || (is_fop s i && (is_paired s i && has_key s (s givers i) (s takers i) (s baskets_or_exposures i) (s closings i) e)))

-- "free exposures of amount 0 to which no row belongs"
abbrev pub is_idle : State → ℕ → Bool
is_idle s e = is_in_use s e && (eqb (s exposure_amounts e) 0 && all (λ i. not (belongs s e i)) 256 0)

-- one of them: its row holds nothing
abbrev pub exposure_freed : State → ℕ → State
exposure_freed s e = clear_row s exposure_tables e

-- all of them
unfoldable pub exposures_freed : State → State
exposures_freed s = on_each (is_idle s) exposure_freed 64 s

-- what the ledger is told: "a zeroed exposure's amount is added to C"
unfoldable pub closing_events : State → ℕ → List Event
closing_events s zero = []
closing_events s (suc e) = closing_events s e ++ cond (is_exposure_closed s e) (closed e (s exposure_amounts e) ∷ []) []

-- 12, pass by pass in the sentence's order: "A: new day, B: rows dropped, M: amounts closed."
unfoldable pub next_day : State → Step
next_day s =
    let done = rows_dropped is_done s in
    let day = on_next_day done in
    let fops = rows_dropped is_closed_fop day in
    let zeroed = exposures_closed fops in
    let returns = rows_dropped is_closed_return zeroed in
    record {
      a = day today 0;
      b = count (is_done s) 256 0 + count (is_closed_fop day) 256 0 + count (is_closed_return zeroed) 256 0;
      m = sum (λ e. cond (is_exposure_closed fops e) (fops exposure_amounts e) 0) 64;
      state = exposures_freed returns;
      events = closing_events fops 64;
    }
