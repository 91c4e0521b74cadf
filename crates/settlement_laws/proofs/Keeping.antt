-- What a whole settlement keeps: by induction over the pairs that settle, in one form for returns and FOPs.
-- Assumes nothing.
use mathlib.Core.Path.{◌≡◌, refl, ◌∙◌}
use mathlib.Core.Bool.{Bool, true, false, cond, ◌&&◌}
use mathlib.Core.List.{List, [], ◌∷◌}
use mathlib.Core.Logic.{inl, inr, ⊎_elim}
use Prim.Native.Nat.{ℕ, ◌+◌, ◌-◌, ◌≤◌, ◌<◌}
use native.Mathlib.Decide.{ℕ_discrete}
use native.Mathlib.Omega.{arith}
use lib.Dec.{eqb, ltb}
use borrow.Author.Tests.{eq-eqb, ne_eqb, eqb-false, ltb-true, ltb-false}
use Rattle.laws.proofs.Cases.{either}
use Rattle.laws.proofs.Lists.{Differ}
use Rattle.book.specs.Layout.{tolerance, pair_partials, exposure_amounts}
use Rattle.book.specs.State.{State}
use Rattle.facts.proofs.Keeps.{Amounts, Keeps}
use Rattle.facts.specs.Good.{Good}
use Rattle.facts.proofs.Sums.{Sums, noted, all_noted, noted_one}
use Rattle.rules.specs.Outcome.{Step, silent, settled, returned}
use Rattle.rules.specs.Requests.{rest_of, exposure_of_fop}
use Rattle.rules.specs.Settlement.{due_rows, settle_return, waits, whole, part, nothing, fop_case, fop_settles, settle_fop, settle_each, settlement}
use Rattle.rules.specs.Stock.{eligible_for, pick_for, holding}
use Rattle.settlement_laws.specs.Ways.{PairOf, Due, fop_amount, fop_settled, Way, return_way, fop_way, told, settle_by, left}
use Rattle.settlement_laws.proofs.Finding.{due_pair, due_rest}
use Rattle.settlement_laws.proofs.Settling.{return_good, return_bonds, return_within, return_exposure, return_other, fop_good, fop_bonds, fop_exposure, fop_other}
use Rattle.settlement_laws.proofs.Staying.{Touched, Lined, lined_start, lined_next, others_stay, return_touched, fop_touched}

-- the paper follows the exposure that changes
module _ (s t : State) (e x : ℕ) (other : (d : ℕ) → Differ d e → t exposure_amounts d ≡ s exposure_amounts d) (p : Sums) (a : Amounts s p) where
  settled_amounts_lem : t exposure_amounts e ≡ s exposure_amounts e + x → Amounts t (noted p (settled e x))
  settled_amounts_lem own d =
      let before = a d in
      elim (ℕ_discrete d e) [
        | yes q ↦ rw (eq-eqb d e q) (let now : t exposure_amounts d ≡ s exposure_amounts d + x = rw q own in omega arith)
        | no n ↦ rw (ne_eqb d e n) (omega (arith, other d n))
      ]

  returned_amounts : x ≤ s exposure_amounts e → t exposure_amounts e ≡ s exposure_amounts e - x → Amounts t (noted p (returned e x))
  returned_amounts within own d =
      let before = a d in
      elim (ℕ_discrete d e) [
        | yes q ↦ rw (eq-eqb d e q) (let now : t exposure_amounts d ≡ s exposure_amounts d - x = rw q own in let some : x ≤ s exposure_amounts d = rw q within in omega arith)
        | no n ↦ rw (ne_eqb d e n) (omega (arith, other d n))
      ]

-- what a way of settling keeps, for a pair of which something settles
pub record Settles (y : Way) (s : State) (i : ℕ) : Type 0 where
  pub good : Good (y.after s i)
  pub bonds : (p j : ℕ) → p < 32 → j < 64 → holding (y.after s i) p j ≡ holding s p j
  pub amounts : (p : Sums) → Amounts s p → Amounts (y.after s i) (noted p (told y (y.exposure s i) (y.amount s i)))
  pub touched : Touched s (y.after s i) i

abbrev pub AsWay : Way → ℕ → Type 0
AsWay y kind = (s : State) (i : ℕ) → Good s → PairOf s kind i → Differ (y.amount s i) 0 → Settles y s i

pub return_way_lem : AsWay return_way 7
return_way_lem s i g p n = record {
  good = return_good g p;
  bonds = return_bonds g p;
  amounts = λ q a. returned_amounts s (return_way.after s i) _ _ (return_other s i) q a (return_within s i) (return_exposure s i);
  touched = return_touched s i;
}

pub fop_way_lem : AsWay fop_way 6
fop_way_lem s i g p n = record {
  good = fop_good g p n;
  bonds = fop_bonds g p;
  amounts = λ q a. settled_amounts_lem s (fop_settled s i) _ _ (fop_other s i) q a (fop_exposure s i);
  touched = fop_touched s i;
}

-- the definition settles in these ways
pub return_by : (w : Step) (i : ℕ) → settle_return w i ≡ settle_by return_way w i
unfolding settle_return settle_by
return_by w i = refl

by_case : (f : ℕ → Step) (w : Step) (rest value : ℕ) → Differ rest 0 → (over near partial : Bool)
    → elim (cond over waits (cond near whole (cond (partial && ltb 0 value) part nothing))) [ waits ↦ w | whole ↦ f rest | part ↦ f value | nothing ↦ w ]
    ≡ (let x = cond over 0 (cond near rest (cond partial value 0)) in cond (eqb x 0) w (f x))
by_case f w rest value n true near partial = refl
by_case f w rest value n false true partial = rw (ne_eqb rest 0 n)
by_case f w rest value n false false true =
    ⊎_elim
    (λ h. let some = ltb-true 0 value h in rw (h, ne_eqb value 0 (λ z. omega arith)))
    (λ h. let none = ltb-false 0 value h in rw (h, eq-eqb value 0 (omega arith)))
    (either (ltb 0 value))
by_case f w rest value n false false false = refl

pub fop_by : (w : Step) (i : ℕ) → Due w.state 6 i → settle_fop w i ≡ settle_by fop_way w i
unfolding settle_fop fop_case fop_settles settle_by fop_amount fop_settled
fop_by w i d =
    let s = w.state in
    let e = exposure_of_fop s i in
    let pick = pick_for s e (eligible_for s e) (rest_of s i) in
    by_case (λ x. fop_settles w i x pick) w (rest_of s i) pick.value (due_rest d)
    (ltb 10000000000000 (s exposure_amounts e + rest_of s i)) (ltb (rest_of s i - pick.value) (s tolerance 0)) (eqb (s pair_partials i) 1)

-- what holds of the state before and, where something settles, of that after, holds of what is left
module _ (y : Way) where
  pub left_holds : (P : State → Type 0) (s : State) (i : ℕ) → P s → (Differ (y.amount s i) 0 → P (y.after s i)) → P (left y s i)
  left_holds P s i p q = ⊎_elim (λ e. rw e p) (λ e. rw e (q (eqb-false (y.amount s i) 0 e))) (either (eqb (y.amount s i) 0))

  pub by_left : (w : Step) (i : ℕ) → (settle_by y w i).state ≡ left y w.state i
  unfolding settle_by
  by_left w i = ⊎_elim (λ e. rw e) (λ e. rw e) (either (eqb (y.amount w.state i) 0))

-- one pair
module _ {y : Way} {kind : ℕ} (way : AsWay y kind) where
  pub next_good : (s : State) (i : ℕ) → Good s → PairOf s kind i → Good (left y s i)
  next_good s i g p = left_holds y Good s i g (λ n. (way s i g p n).good)

  pub next_lined : {s : State} {i : ℕ} {rows : List ℕ} → Good s → Lined s kind (i ∷ rows) → Lined (left y s i) kind rows
  next_lined {s} {i} {rows} g l =
      left_holds y (λ t. Lined t kind rows) s i (record { due = λ k h. l.due k (inr h); apart = l.apart.1 })
      (λ n. lined_next g l (way s i g (due_pair (l.due i (inl refl))) n).touched)

  next_others : (s : State) (i : ℕ) → Good s → PairOf s kind i → (other : ℕ) → Differ other kind → due_rows (left y s i) other ≡ due_rows s other
  next_others s i g p other d = left_holds y (λ t. due_rows t other ≡ due_rows s other) s i refl (λ n. others_stay g p (way s i g p n).touched other d)

  next_keeps : {s : State} (w : Step) (i : ℕ) → Keeps s w → PairOf w.state kind i → Keeps s (settle_by y w i)
  unfolding settle_by
  next_keeps w i k p =
      let t = w.state in
      ⊎_elim
      (λ e. rw e k)
      (λ e.
      let z = way t i k.good p (eqb-false (y.amount t i) 0 e) in
      rw e (record {
        good = z.good;
        bonds = λ q j m l. z.bonds q j m l ∙ k.bonds q j m l;
        amounts = λ q a. rw (noted_one q w.events (told y (y.exposure t i) (y.amount t i))) (z.amounts (all_noted q w.events) (k.amounts q a));
      }))
      (either (eqb (y.amount t i) 0))

  -- all pairs of one kind
  pub record Walked (s : State) (settle : Step → ℕ → Step) (rows : List ℕ) (w : Step) : Type 0 where
    pub keeps : Keeps s (settle_each (settle_by y) rows w)
    pub same : settle_each settle rows w ≡ settle_each (settle_by y) rows w
    pub others : (other : ℕ) → Differ other kind → due_rows (settle_each (settle_by y) rows w).state other ≡ due_rows w.state other

  walked : {s : State} (settle : Step → ℕ → Step) → ((w : Step) (i : ℕ) → Due w.state kind i → settle w i ≡ settle_by y w i)
      → (rows : List ℕ) (w : Step) → Keeps s w → Lined w.state kind rows → Walked s settle rows w
  unfolding settle_each
  walked settle agree [] w k l = record { keeps = k; same = refl; others = λ other d. refl }
  walked settle agree (i ∷ rows) w k l =
      let d = l.due i (inl refl) in
      let p = due_pair d in
      let on = walked settle agree rows (settle_by y w i) (next_keeps w i k p) (rw (by_left y w i) (next_lined k.good l)) in
      record {
        keeps = on.keeps;
        same = rw (agree w i d) on.same;
        others = λ other n. on.others other n ∙ rw (by_left y w i) (next_others w.state i k.good p other n);
      }

-- "returns before FOPs": the FOPs due at the start are due when the returns have settled
module _ (s : State) (g : Good s) where
  begin : Keeps s (silent s)
  unfolding all_noted
  begin = record { good = g; bonds = λ p i m l. refl; amounts = λ p a. a }

  pub returns_walked : Walked return_way_lem s settle_return (due_rows s 7) (silent s)
  returns_walked = walked return_way_lem settle_return (λ w i d. return_by w i) (due_rows s 7) (silent s) begin (lined_start s 7 g)

  abbrev returned_all : Step
  returned_all = settle_each (settle_by return_way) (due_rows s 7) (silent s)

  pub fops_stay : due_rows returned_all.state 6 ≡ due_rows s 6
  fops_stay = returns_walked.others 6 (λ z. omega arith)

  pub fops_walked : Walked fop_way_lem s settle_fop (due_rows s 6) returned_all
  fops_walked =
      walked fop_way_lem settle_fop fop_by (due_rows s 6) returned_all returns_walked.keeps
      (rw (← fops_stay) (lined_start returned_all.state 6 returns_walked.keeps.good))

  pub settlement_by : settlement s ≡ settle_each (settle_by fop_way) (due_rows s 6) returned_all
  unfolding settlement
  settlement_by = rw returns_walked.same fops_walked.same

  pub keeps_settlement : Keeps s (settlement s)
  keeps_settlement = rw settlement_by fops_walked.keeps
