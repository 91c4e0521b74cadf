-- Steps 10 and 11: mark, recall.
-- Assumes nothing.
use Rattle.std.specs.Prelude.{Bool, not, ◌||◌, cond, List, [], ℕ, zero, suc, ◌+◌, ◌*◌, ◌-◌, eqb, leb, ltb, set, replicate}
use Rattle.laws.specs.Filled.{filled}
use Rattle.laws.specs.Search.{all, count}
use Rattle.laws.specs.Sum.{sum}
use Rattle.book.specs.Layout.{tolerance, positions, exposure_amounts}
use Rattle.book.specs.State.{State}
use Rattle.picking.specs.Pick.{but_not}
use Rattle.picking.specs.declared.Outcome.{Outcome}
use Rattle.rules.specs.Outcome.{Step}
use Rattle.rules.specs.Fields.{recall_exposure, recall_security, recall_nominal}
use Rattle.rules.specs.Requests.{is_in_use}
use Rattle.rules.specs.Stock.{value_of, eligible_for, pick_for, free_for, pledge, give_back}

-- a step on each used exposure below n, by rising number
unfoldable pub on_exposures : (State → ℕ → State) → ℕ → State → State
on_exposures step zero s = s
on_exposures step (suc e) s =
    let t = on_exposures step e s in
    cond (is_in_use t e) (step t e) t

-- "give back ineligible securities": the whole nominal of each
abbrev pub ineligible_of : State → ℕ → List ℕ
ineligible_of s e = filled (λ i. cond (eligible_for s e i) 0 (s positions (64 * e + i))) 64 64

unfoldable pub ineligible_back : State → ℕ → State
ineligible_back s e = give_back s e (ineligible_of s e)

-- "then on all Free"
unfoldable pub excess_back : State → ℕ → State
excess_back s e = give_back s e (free_for s e (s exposure_amounts e)).nominals

-- "where the value is below the exposure, Pick the difference"
unfoldable pub shortfall_in : State → ℕ → State
shortfall_in s e = cond (ltb (value_of s e) (s exposure_amounts e)) (pledge s e (pick_for s e (eligible_for s e) (s exposure_amounts e - value_of s e)).nominals) s

-- the first two passes: "on all exposures give back ineligible securities; then on all Free"
unfoldable pub given_back : State → State
given_back s = on_exposures excess_back 64 (on_exposures ineligible_back 64 s)

-- the third: "then by rising number, where the value is below the exposure, Pick the difference"
unfoldable pub searched : State → State
searched s = on_exposures shortfall_in 64 (given_back s)

-- the position of e is another in the second state
abbrev pub moved : State → State → ℕ → Bool
moved s t e = not (all (λ i. eqb (s positions (64 * e + i)) (t positions (64 * e + i))) 64 0)

-- what is missing of a used exposure
abbrev pub missing_of : State → ℕ → ℕ
missing_of s e = cond (is_in_use s e) (s exposure_amounts e - value_of s e) 0

-- 10: "A: exposures that gave back, B: exposures that took in, M: total missing after."
unfoldable pub marked : State → Step
marked s = record {
  a = count (moved s (given_back s)) 64 0;
  b = count (moved (given_back s) (searched s)) 64 0;
  m = sum (missing_of (searched s)) 64;
  state = searched s;
  events = [];
}

-- 11: "give the nominal back to the giver's account"
abbrev pub one_nominal : ℕ → ℕ → List ℕ
one_nominal i n = set (replicate 64 0) i n

-- the state with the nominal given back, before its substitutes
abbrev pub recalled : State → List ℕ → State
recalled s r = give_back s (recall_exposure r) (one_nominal (recall_security r) (recall_nominal r))

-- "Pick what is then missing from the exposure amount, leaving that security out"
unfoldable pub substitutes : State → List ℕ → Outcome
substitutes s r =
    let e = recall_exposure r in
    let t = recalled s r in
    pick_for t e (but_not (recall_security r) (eligible_for t e)) (t exposure_amounts e - value_of t e)

-- the state with the substitutes in the position
unfoldable pub substituted : State → List ℕ → State
substituted s r = pledge (recalled s r) (recall_exposure r) (substitutes s r).nominals

-- "Accepted if the new value plus tolerance exceeds the exposure, or the new value is no lower than before."
unfoldable pub recall_accepted : State → List ℕ → Bool
recall_accepted s r =
    let e = recall_exposure r in
    ltb (s exposure_amounts e) (value_of (substituted s r) e + s tolerance 0) || leb (value_of s e) (value_of (substituted s r) e)

-- "B: securities picked, M: the value found."
unfoldable pub recall : State → List ℕ → Step
recall s r = record { a = 0; b = (substitutes s r).count; m = (substitutes s r).value; state = substituted s r; events = [] }
