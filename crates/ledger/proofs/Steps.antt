-- Each accepted record leaves the paper in order.
-- Assumes nothing.
use mathlib.Core.Path.{◌≡◌, refl}
use mathlib.Core.Bool.{Bool, true, false, ◌&&◌, cond}
use mathlib.Core.List.{List}
use Prim.Native.Nat.{ℕ, ◌+◌, ◌<◌}
use native.Mathlib.Decide.{ℕ_discrete}
use native.Mathlib.Omega.{arith}
use lib.Dec.{eqb}
use Rattle.records.specs.Writing.{are_legal}
use Rattle.book.specs.State.{State}
use Rattle.rules.specs.Call.{step_of}
use Rattle.rules.specs.Codes.{opening_rules, deposit_rules, withdrawal_rules, fop_rules, return_rules, cancel_rules, recall_rules, next_day_rules, code_of}
use Rattle.rules.specs.DayChange.{next_day}
use Rattle.ledger.specs.Ledger.{Paper, fresh, lodged, all_noted, taken_down}
use Rattle.rules.specs.Marking.{marked, recall}
use Rattle.rules.specs.Outcome.{Step, lowest}
use Rattle.rules.specs.Fields.{deposit_kind, withdrawal_kind, field}
use Rattle.rules.specs.Requesting.{entered, cancelled}
use Rattle.rules.specs.Settlement.{settlement}
use Rattle.rules.specs.SetUp.{priced, enrolled, basket_made, deposited, withdrawn}
use Rattle.facts.proofs.Keeps.{Keeps}
use Rattle.facts.specs.Good.{Good}
use Rattle.setup_laws.proofs.SetUp.{good_opening, opening_holds, opening_amount, keeps_price, keeps_participant, keeps_basket, nominal_at, deposit, withdrawal}
use Rattle.ledger.proofs.Paper.{sums_of, InOrder, on_paper_lem, noted_in_order}

-- what the kinds 6 to 12 keep
pub record StepsKeep : Type 0 where
  pub fop : (s : State) (r : List ℕ) → Good s → are_legal 6 r ≡ true → lowest (fop_rules s r) ≡ 0 → Keeps s (entered s 6 r)
  pub return : (s : State) (r : List ℕ) → Good s → are_legal 7 r ≡ true → lowest (return_rules s r) ≡ 0 → Keeps s (entered s 7 r)
  pub cancel : (s : State) (r : List ℕ) → Good s → are_legal 8 r ≡ true → lowest (cancel_rules s r) ≡ 0 → Keeps s (cancelled s r)
  pub settle : (s : State) → Good s → Keeps s (settlement s)
  pub mark : (s : State) → Good s → Keeps s (marked s)
  pub recalls : (s : State) (r : List ℕ) → Good s → are_legal 11 r ≡ true → lowest (recall_rules s r) ≡ 0 → Keeps s (recall s r)
  pub next_day_lem : (s : State) → Good s → lowest (next_day_rules s) ≡ 0 → Keeps s (next_day s)

-- an opening, whatever stood on the paper
pub opening_in_order : (p : Paper) (r : List ℕ) → are_legal 0 r ≡ true → lowest (opening_rules r) ≡ 0 → InOrder (taken_down p 0 r)
unfolding taken_down step_of
opening_in_order p r legal accepted = record {
  good = good_opening r legal accepted;
  amounts = λ e. omega (arith, opening_amount r legal accepted e);
  bonds = λ q i h l. omega (arith, opening_holds r legal accepted q i);
}

-- the paper with a step of kind k taken down
abbrev pub down : Paper → ℕ → List ℕ → Step → Paper
down p k r t = record {
  steps = t.state;
  deposits = lodged deposit_kind p.deposits k r;
  withdrawals = lodged withdrawal_kind p.withdrawals k r;
  sums = all_noted p.sums t.events;
}

-- what a deposit adds to D, and a withdrawal to W
adds : (r : List ℕ) (f : ℕ → ℕ → ℕ) (q j : ℕ) → cond (eqb q (field r 0) && eqb j (field r 1)) (f q j + field r 2) (f q j) ≡ f q j + nominal_at r q j
adds r f q j = go (eqb q (field r 0) && eqb j (field r 1))
  where
    go : (b : Bool) → cond b (f q j + field r 2) (f q j) ≡ f q j + cond b (field r 2) 0
    go true = refl
    go false = omega arith

module _ (p : Paper) (o : InOrder p) (r : List ℕ) where
  -- a step that keeps each participant's bonds
  kept_in_order : (k : ℕ) (t : Step) → eqb k 4 ≡ false → eqb k 5 ≡ false → Keeps p.steps t → InOrder (down p k r t)
  kept_in_order k t d w keeps = record {
    good = keeps.good;
    amounts = noted_in_order t.state p.sums t.events (keeps.amounts (sums_of p.sums) o.amounts);
    bonds = λ q i h l. rw (d, w, keeps.bonds q i h l) (o.bonds q i h l);
  }

  -- "A deposit adds to D, a withdrawal to W."
  deposit_in_order : are_legal 4 r ≡ true → lowest (deposit_rules p.steps r) ≡ 0 → InOrder (down p 4 r (deposited p.steps r))
  deposit_in_order legal accepted =
      let keeps = deposit p.steps r o.good legal accepted in
      record {
        good = keeps.good;
        amounts = noted_in_order (deposited p.steps r).state p.sums (deposited p.steps r).events (keeps.amounts (sums_of p.sums) o.amounts);
        bonds = λ x i h l. omega (arith, keeps.bonds x i h l, adds r p.deposits x i, o.bonds x i h l);
      }

  withdrawal_in_order : are_legal 5 r ≡ true → lowest (withdrawal_rules p.steps r) ≡ 0 → InOrder (down p 5 r (withdrawn p.steps r))
  withdrawal_in_order legal accepted =
      let keeps = withdrawal p.steps r o.good legal accepted in
      record {
        good = keeps.good;
        amounts = noted_in_order (withdrawn p.steps r).state p.sums (withdrawn p.steps r).events (keeps.amounts (sums_of p.sums) o.amounts);
        bonds = λ x i h l. omega (arith, keeps.bonds x i h l, adds r p.withdrawals x i, o.bonds x i h l);
      }

  -- each kind, its fields in their ranges and accepted by its rules
  abbrev Kept : ℕ → Type 0
  Kept k = are_legal k r ≡ true → code_of p.steps k r ≡ 0 → InOrder (cond (eqb k 0) (fresh (step_of p.steps k r).state) (down p k r (step_of p.steps k r)))

  -- of the kinds up to n: n itself, or one before it
  at : (n k : ℕ) → k < n + 1 → Kept n → (k < n → Kept k) → Kept k
  at n k l last before = elim (ℕ_discrete k n) [ yes e ↦ rw e last | no e ↦ before (omega arith) ]

  setting_up : (k : ℕ) → k < 6 → Kept k
  unfolding step_of code_of taken_down
  setting_up k l5 =
      let s = p.steps in
      at 5 k l5 withdrawal_in_order (λ l4.
      at 4 k l4 deposit_in_order (λ l3.
      at 3 k l3 (λ legal accepted. kept_in_order 3 (basket_made s r) refl refl (keeps_basket s r o.good legal accepted)) (λ l2.
      at 2 k l2 (λ legal accepted. kept_in_order 2 (enrolled s r) refl refl (keeps_participant s r o.good legal)) (λ l1.
      at 1 k l1 (λ legal accepted. kept_in_order 1 (priced s r) refl refl (keeps_price s r o.good legal accepted)) (λ l0.
      at 0 k l0 (opening_in_order p r) (λ n. absurd (omega arith)))))))

  each_kind : StepsKeep → (k : ℕ) → k < 13 → Kept k
  unfolding step_of code_of
  each_kind laws k l12 =
      let s = p.steps in
      at 12 k l12 (λ legal accepted. kept_in_order 12 (next_day s) refl refl (laws.next_day_lem s o.good accepted)) (λ l11.
      at 11 k l11 (λ legal accepted. kept_in_order 11 (recall s r) refl refl (laws.recalls s r o.good legal accepted)) (λ l10.
      at 10 k l10 (λ legal accepted. kept_in_order 10 (marked s) refl refl (laws.mark s o.good)) (λ l9.
      at 9 k l9 (λ legal accepted. kept_in_order 9 (settlement s) refl refl (laws.settle s o.good)) (λ l8.
      at 8 k l8 (λ legal accepted. kept_in_order 8 (cancelled s r) refl refl (laws.cancel s r o.good legal accepted)) (λ l7.
      at 7 k l7 (λ legal accepted. kept_in_order 7 (entered s 7 r) refl refl (laws.return s r o.good legal accepted)) (λ l6.
      at 6 k l6 (λ legal accepted. kept_in_order 6 (entered s 6 r) refl refl (laws.fop s r o.good legal accepted)) (setting_up k)))))))

  -- an accepted record leaves the paper in order
  pub taken_in_order : StepsKeep → (k : ℕ) → k < 13 → are_legal k r ≡ true → code_of p.steps k r ≡ 0 → InOrder (taken_down p k r)
  unfolding taken_down
  taken_in_order laws k l legal accepted = rw (on_paper_lem p o) (each_kind laws k l legal accepted)
