-- Settling a pair leaves the others due: of what tells that a row is due, only the settled amounts of the pair's two rows change, and of
-- the two the later is tried once, the earlier never.
-- Assumes nothing.
use mathlib.Core.Path.{◌≡◌, refl, sym, ap, ◌∙◌}
use mathlib.Core.Bool.{Bool, ◌&&◌}
use mathlib.Core.List.{List, ◌∷◌}
use mathlib.Core.Logic.{inl, inr, ⊎_elim}
use Prim.Native.Nat.{ℕ, ◌<◌}
use native.Mathlib.Omega.{arith}
use lib.Dec.{eqb}
use borrow.Author.Tests.{ne_eqb, eqb-true}
use Rattle.laws.specs.Lists.{those, in_order}
use Rattle.laws.proofs.Cases.{either}
use Rattle.laws.proofs.Lists.{In, Sorted, Differ, sorted_by, those_same, order_same}
use Rattle.book.specs.Layout.{today, numbers, request_kinds, amounts, settlements, settled_amounts, partners, ends}
use Rattle.book.specs.State.{State}
use Rattle.rules.specs.Requests.{partner_of}
use Rattle.rules.specs.Settlement.{is_due, settles_before, due_rows, both_settled, return_settled}
use Rattle.facts.specs.Good.{Good}
use Rattle.facts.proofs.Rows.{Pair, used_paired}
use Rattle.settlement_laws.specs.Ways.{PairOf, Due, fop_settled}
use Rattle.settlement_laws.proofs.Finding.{due_in, due_pair, due_later, due_sorted}
use Rattle.settlement_laws.proofs.Ordering.{not_itself}

-- what tells that a row is due and when, but for the settled amounts of a pair
pub record Touched (s t : State) (i : ℕ) : Type 0 where
  pub day : t today 0 ≡ s today 0
  pub number : (k : ℕ) → t numbers k ≡ s numbers k
  pub kind : (k : ℕ) → t request_kinds k ≡ s request_kinds k
  pub amount : (k : ℕ) → t amounts k ≡ s amounts k
  pub settlement : (k : ℕ) → t settlements k ≡ s settlements k
  pub partner : (k : ℕ) → t partners k ≡ s partners k
  pub end : (k : ℕ) → t ends k ≡ s ends k
  pub settled : (k : ℕ) → Differ k i → Differ k (partner_of s i) → t settled_amounts k ≡ s settled_amounts k

-- each is due, and they are different rows
pub record Lined (s : State) (kind : ℕ) (rows : List ℕ) : Type 0 where
  pub due : (i : ℕ) → In i rows → Due s kind i
  pub apart : Sorted Differ rows

pub lined_start : (s : State) (kind : ℕ) → Good s → Lined s kind (due_rows s kind)
lined_start s kind g = record {
  due = due_in s kind;
  apart = sorted_by (due_rows s kind) (λ i j a b h e. not_itself s i (rw (← e) at h)) (due_sorted s kind g);
}

module _ {s t : State} {kind i : ℕ} (g : Good s) (p : PairOf s kind i) (a : Touched s t i) where
  pair : Pair s i (partner_of s i)
  pair = (used_paired s i (g.facts.row i p.below) p.used p.paired).pair

  due_same : (k : ℕ) → Differ k i → Differ k (partner_of s i) → is_due t k ≡ is_due s k
  unfolding is_due
  due_same k n m = rw (a.partner k, a.number k, a.number (partner_of s k), a.amount k, a.settlement k, a.end k, a.settled k n m, a.day)

  before_same : (j k : ℕ) → settles_before t j k ≡ settles_before s j k
  unfolding settles_before
  before_same j k = rw (a.settlement j, a.settlement k, a.number j, a.number k)

  -- the pairs of another kind are due as they were
  pub others_stay : (other : ℕ) → Differ other kind → due_rows t other ≡ due_rows s other
  unfolding due_rows
  others_stay other n =
      let now : ℕ → Bool = λ k. eqb (t request_kinds k) other && is_due t k in
      let was : ℕ → Bool = λ k. eqb (s request_kinds k) other && is_due s k in
      let same : (k : ℕ) → k < 256 → now k ≡ was k = λ k l. rw (a.kind k)
      (⊎_elim
      (λ e.
      let is = eqb-true (s request_kinds k) other e in
      rw e (due_same k (λ q. n (sym is ∙ ap (s request_kinds) q ∙ p.kind_is)) (λ q. n (sym is ∙ ap (s request_kinds) q ∙ sym pair.kind ∙ p.kind_is))))
      (λ e. rw e)
      (either (eqb (s request_kinds k) other))) in
      order_same (settles_before t) (settles_before s) (those now 256) (λ j k h l. before_same j k) ∙ ap (in_order (settles_before s)) (those_same now was 256 same)

-- the pairs of the kind that come after it are due as they were
pub lined_next : {s t : State} {kind i : ℕ} {rows : List ℕ} → Good s → Lined s kind (i ∷ rows) → Touched s t i → Lined t kind rows
lined_next {s} {t} {kind} {i} {rows} g l a =
    let own = l.due i (inl refl) in
    let row = due_pair own in
    let named = (pair g row a).named in
    record {
      due = λ k h.
          let d = l.due k (inr h) in
          let earlier : Differ k (partner_of s i) = λ q.
          let back : partner_of s k ≡ i = rw q (omega (arith, named)) in
          let less : s numbers i < s numbers k = rw back at (due_later d) in
          let more : s numbers k < s numbers i = rw (← q) at (due_later own) in
          omega arith in
          record { below = d.below; kind_is = a.kind k ∙ d.kind_is; due = due_same g row a k (λ q. l.apart.0 k h (sym q)) earlier ∙ d.due };
      apart = l.apart.1;
    }

-- a return and a FOP touch their own pair only
module _ (s : State) (i : ℕ) where
  touched : (x : ℕ) (k : ℕ) → Differ k i → Differ k (partner_of s i) → both_settled s i x settled_amounts k ≡ s settled_amounts k
  touched x k n m = rw (ne_eqb k (partner_of s i) m, ne_eqb k i n)

  pub return_touched : Touched s (return_settled s i) i
  unfolding return_settled
  return_touched = record { day = refl; number = λ k. refl; kind = λ k. refl; amount = λ k. refl; settlement = λ k. refl; partner = λ k. refl; end = λ k. refl; settled = touched _ }

  pub fop_touched : Touched s (fop_settled s i) i
  unfolding fop_settled
  fop_touched = record { day = refl; number = λ k. refl; kind = λ k. refl; amount = λ k. refl; settlement = λ k. refl; partner = λ k. refl; end = λ k. refl; settled = touched _ }
