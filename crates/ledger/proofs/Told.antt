-- M of a settle and of a next day is the sum of what the ledger is told.
-- Assumes nothing.
use mathlib.Core.Path.{◌≡◌, refl}
use mathlib.Core.Bool.{Bool, true, false, cond}
use mathlib.Core.List.{List, [], ◌∷◌, ◌++◌}
use mathlib.Core.Logic.{⊎_elim}
use Prim.Native.Nat.{ℕ, zero, suc, ◌+◌}
use native.Mathlib.Omega.{arith}
use lib.Dec.{eqb}
use Rattle.laws.specs.Sum.{sum}
use Rattle.laws.proofs.Cases.{either}
use Rattle.book.specs.Layout.{baskets_or_exposures, exposure_amounts}
use Rattle.book.specs.State.{State}
use Rattle.picking.specs.declared.Outcome.{Outcome}
use Rattle.rules.specs.DayChange.{is_exposure_closed, closing_events, next_day}
use Rattle.rules.specs.Fields.{fop_kind, return_kind}
use Rattle.rules.specs.Outcome.{Step, Event, settled, returned, closed, silent}
use Rattle.rules.specs.Requests.{rest_of, exposure_of_fop}
use Rattle.rules.specs.Settlement.{due_rows, return_amount, settle_return, FopCase, waits, whole, part, nothing, fop_case, fop_settles, settle_fop, settle_each, settlement}
use Rattle.rules.specs.Stock.{eligible_for, pick_for}
use Rattle.ledger.specs.Ledger.{cents_told, AllMoneyTold}

told_append : (xs ys : List Event) → cents_told (xs ++ ys) ≡ cents_told xs + cents_told ys
unfolding cents_told
told_append [] ys = omega arith
told_append (x ∷ xs) ys = omega (arith, told_append xs ys)

-- M so far is what was told so far
abbrev Told : Step → Type 0
Told w = w.m ≡ cents_told w.events

return_told : (w : Step) (i : ℕ) → Told w → Told (settle_return w i)
unfolding settle_return cents_told
return_told w i h =
    let s = w.state in
    let x = return_amount s i in
    ⊎_elim (λ e. rw e h) (λ e. rw e (omega (arith, told_append w.events (returned (s baskets_or_exposures i) x ∷ [])))) (either (eqb x 0))

fop_told : (w : Step) (i : ℕ) → Told w → Told (settle_fop w i)
unfolding settle_fop fop_settles cents_told
fop_told w i h = by_case (fop_case s i pick.value)
  where
    s : State
    s = w.state

    e : ℕ
    e = exposure_of_fop s i

    pick : Outcome
    pick = pick_for s e (eligible_for s e) (rest_of s i)

    settles : (x : ℕ) → Told (fop_settles w i x pick)
    settles x = omega (arith, told_append w.events (settled (exposure_of_fop w.state i) x ∷ []))

    by_case : (c : FopCase) → Told (elim c [ waits ↦ w | whole ↦ fop_settles w i (rest_of s i) pick | part ↦ fop_settles w i pick.value pick | nothing ↦ w ])
    by_case waits = h
    by_case whole = settles (rest_of s i)
    by_case part = settles pick.value
    by_case nothing = h

each_told : (settle : Step → ℕ → Step) → ((w : Step) (i : ℕ) → Told w → Told (settle w i)) → (is : List ℕ) (w : Step) → Told w → Told (settle_each settle is w)
unfolding settle_each
each_told settle step [] w h = h
each_told settle step (i ∷ is) w h = each_told settle step is (settle w i) (step w i h)

closing_told : (s : State) (n : ℕ) → sum (λ e. cond (is_exposure_closed s e) (s exposure_amounts e) 0) n ≡ cents_told (closing_events s n)
unfolding sum closing_events cents_told
closing_told s zero = refl
closing_told s (suc e) =
    let last = cond (is_exposure_closed s e) (closed e (s exposure_amounts e) ∷ []) [] in
    let own : cond (is_exposure_closed s e) (s exposure_amounts e) 0 ≡ cents_told last = one (is_exposure_closed s e) in
    omega (arith, closing_told s e, told_append (closing_events s e) last, own)
  where
    one : (b : Bool) → cond b (s exposure_amounts e) 0 ≡ cents_told (cond b (closed e (s exposure_amounts e) ∷ []) [])
    one true = omega arith
    one false = refl

pub all_money_told : AllMoneyTold
unfolding settlement next_day cents_told
all_money_told s = record {
  settle = each_told settle_fop fop_told (due_rows s fop_kind) (settle_each settle_return (due_rows s return_kind) (silent s)) (each_told settle_return return_told (due_rows s return_kind) (silent s) refl);
  next_day_lem = closing_told _ 64;
}
