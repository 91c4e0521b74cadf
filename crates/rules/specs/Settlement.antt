-- Step 9: settle. A step is carried along: A counts the FOPs changed, B the returns changed, M the cents settled by both.
-- Assumes nothing.
use Rattle.std.specs.Prelude.{Bool, ◌&&◌, ◌||◌, cond, List, [], ◌∷◌, ◌++◌, ℕ, ◌+◌, ◌-◌, min, eqb, leb, ltb}
use Rattle.limits.specs.Limits.{greatest_exposure}
use Rattle.laws.specs.Lists.{those, in_order}
use Rattle.book.specs.Layout.{today, tolerance, numbers, request_kinds, baskets_or_exposures, settlements, settled_amounts, pair_partials, exposure_amounts}
use Rattle.book.specs.State.{State, put}
use Rattle.picking.specs.declared.Outcome.{Outcome}
use Rattle.rules.specs.Fields.{fop_kind, return_kind}
use Rattle.rules.specs.Outcome.{Step, silent, settled, returned}
use Rattle.rules.specs.Requests.{is_live, is_paired, partner_of, rest_of, exposure_of_fop}
use Rattle.rules.specs.Stock.{eligible_for, pick_for, free_for, pledge, give_back}

-- "live pairs due today or earlier", each by its later request: a pair is made when its later request enters
unfoldable pub is_due : State → ℕ → Bool
is_due s i = is_live s i && (is_paired s i && (ltb (s numbers (partner_of s i)) (s numbers i) && leb (s settlements i) (s today 0)))

-- "then by settlement date, then by pairing order"
unfoldable pub settles_before : State → ℕ → ℕ → Bool
settles_before s i j = ltb (s settlements i) (s settlements j) || (eqb (s settlements i) (s settlements j) && ltb (s numbers i) (s numbers j))

-- the due pairs of one kind, in their order
unfoldable pub due_rows : State → ℕ → List ℕ
due_rows s kind = in_order (settles_before s) (those (λ i. eqb (s request_kinds i) kind && is_due s i) 256)

-- both rows of a pair have settled so much more
abbrev pub both_settled : State → ℕ → ℕ → State
both_settled s i x = put (put s settled_amounts i (s settled_amounts i + x)) settled_amounts (partner_of s i) (s settled_amounts (partner_of s i) + x)

-- "A return settles the lesser of its rest and the exposure, lowers the exposure and Frees."
abbrev pub return_amount : State → ℕ → ℕ
return_amount s i = min (rest_of s i) (s exposure_amounts (s baskets_or_exposures i))

-- the state after a return: both rows, the exposure, and what it no longer needs given back
unfoldable pub return_settled : State → ℕ → State
return_settled s i =
    let e = s baskets_or_exposures i in
    let x = return_amount s i in
    let lower = put (both_settled s i x) exposure_amounts e (s exposure_amounts e - x) in
    give_back lower e (free_for lower e (s exposure_amounts e - x)).nominals

-- "B: returns changed": a return that settles nothing changes nothing
unfoldable pub settle_return : Step → ℕ → Step
settle_return w i =
    let s = w.state in
    let x = return_amount s i in
    cond (eqb x 0) w
    (record { a = w.a; b = w.b + 1; m = w.m + x; state = return_settled s i; events = w.events ++ (returned (s baskets_or_exposures i) x ∷ []) })

-- what becomes of a FOP
pub data FopCase : Type 0 where
  waits : FopCase
  whole : FopCase
  part : FopCase
  nothing : FopCase

-- "A FOP whose rest would take the exposure above 10^13 waits"; "if the value found falls short by less than the tolerance, the whole
-- rest settles; else, if both parties allowed partial when they paired and something was found, the value found settles; else nothing moves"
unfoldable pub fop_case : State → ℕ → ℕ → FopCase
fop_case s i found =
    cond (ltb greatest_exposure (s exposure_amounts (exposure_of_fop s i) + rest_of s i)) waits
    (cond (ltb (rest_of s i - found) (s tolerance 0)) whole
    (cond (eqb (s pair_partials i) 1 && ltb 0 found) part nothing))

-- x settles with what was picked: "The exposure grows by what settles."
unfoldable pub fop_settles : Step → ℕ → ℕ → Outcome → Step
fop_settles w i x pick =
    let s = w.state in
    let e = exposure_of_fop s i in
    record { a = w.a + 1; b = w.b; m = w.m + x; state = pledge (put (both_settled s i x) exposure_amounts e (s exposure_amounts e + x)) e pick.nominals; events = w.events ++ (settled e x ∷ []) }

-- "A FOP Picks its rest": one Pick, then by case
unfoldable pub settle_fop : Step → ℕ → Step
settle_fop w i =
    let s = w.state in
    let e = exposure_of_fop s i in
    let pick = pick_for s e (eligible_for s e) (rest_of s i) in
    elim (fop_case s i pick.value) [
      | waits ↦ w
      | whole ↦ fop_settles w i (rest_of s i) pick
      | part ↦ fop_settles w i pick.value pick
      | nothing ↦ w
    ]

-- one pair after the other
unfoldable pub settle_each : (Step → ℕ → Step) → List ℕ → Step → Step
settle_each settle [] w = w
settle_each settle (i ∷ is) w = settle_each settle is (settle w i)

-- 9: "returns before FOPs", all that are due in the state at the start
unfoldable pub settlement : State → Step
settlement s = settle_each settle_fop (due_rows s fop_kind) (settle_each settle_return (due_rows s return_kind) (silent s))
