-- `min_by_key` over the numbers below n that pass a test: it picks what `least_by` does.
-- Assumes nothing.
use mathlib.Core.Path.{◌≡◌, refl, sym, ap, subst, ◌∙◌}
use mathlib.Core.Bool.{Bool, true, false, ◌&&◌, ◌||◌, cond}
use mathlib.Core.List.{[], ◌∷◌}
use mathlib.Core.Logic.{⊎_elim}
use Prim.Native.Nat.{ℕ, zero, suc, ◌+◌, ◌≤◌, ◌<◌}
use native.Mathlib.Decide.{dec_lt}
use native.Mathlib.Numerals.{add-one}
use native.Mathlib.Omega.{arith}
use lib.Dec.{eqb, ltb}
use lib.ListN.{length}
use borrow.Author.Tests.{eq-eqb, ne_eqb, lt-ltb, le-ltb}
use denote.Ref.{Bor}
use denote.Param.Members.{Mut}
use Rattle.std.specs.Prelude.{List, Option, Some, None}
use Rattle.std.specs.declared.iter.Filter.{Filter}
use Rattle.std.specs.declared.ops.Range.{Range}
use Rattle.std.specs.Fn.{CalledAt, TakesAt}
use Rattle.std.specs.Iterator.{Drains, KeyTurn, PicksMinByKey, CallableInMinByKey, Yields}
use Rattle.std.specs.Iterator.Adapters.{filter_source, filter_callee, filter_steps}
use Rattle.std.specs.List.{All, FoldsTo, filter, fold, reduce, range_with_len}
use Rattle.std.specs.Option.{MatchOption}
use Rattle.std.specs.Ordering.{nat_cmp, min_by_ordering}
use Rattle.std.proofs.Common.{Ordering, Less, Equal, Greater}
use Rattle.std.proofs.iter.Yields.{nat_range_steps}
use Rattle.std.proofs.lemmas.Bool.{cond_both}
use Rattle.std.proofs.lemmas.Cmp.{ranked}
use Rattle.std.proofs.lemmas.Iterator.{YieldsList, YieldsList-from_range}
use Rattle.std.proofs.lemmas.Iterator.Consumers.{YieldsList-from_filter, YieldsList-turn, reduce_from_yields_List}
use Rattle.std.proofs.lemmas.List.Elements.{All-filter, All-nil, All-cons}
use Rattle.laws.specs.Search.{least_by}
use Rattle.laws.specs.Found.{found}
use Rattle.laws.proofs.Cases.{either}
use Rattle.laws.proofs.Found.{found_here, found_none}

module _ (key : ℕ → ℕ) where
  -- of two numbers the one with the lesser key, the first where the keys are equal
  abbrev lesser : ℕ → ℕ → ℕ
  lesser p z = min_by_ordering (nat_cmp (key p) (key z)) p z

  key_of : (o : Ordering) (p z : ℕ) → min_by_ordering o (key p) (key z) ≡ key (min_by_ordering o p z)
  key_of Less p z = refl
  key_of Equal p z = refl
  key_of Greater p z = refl

  lesser_is : (p z : ℕ) (o : Ordering) → o ≡ nat_cmp (key p) (key z) → min_by_ordering o p z ≡ cond (ltb (key z) (key p)) z p
  lesser_is p z Less e = rw (le-ltb (key z) (key p) (omega (arith, ranked (key p) (key z) Less e)))
  lesser_is p z Equal e = rw (le-ltb (key z) (key p) (omega (arith, ranked (key p) (key z) Equal e)))
  lesser_is p z Greater e = rw (lt-ltb (key z) (key p) (omega (arith, ranked (key p) (key z) Greater e)))

  -- ---- the turns of `min_by_key`, where each call of f gives the key
  module _ {F : Type 0} (g : Mut F (Bor ℕ × Unit {0}) ℕ) (f : F) (keyed : (x k : ℕ) (q : F) → CalledAt g f x k q → (q ≡ f) × (k ≡ key x)) where
    turns : (xs : List ℕ) (p q : (F × ℕ) × ℕ) → p.0.0 ≡ f → p.0.1 ≡ key p.1 → FoldsTo {P = (F × ℕ) × ℕ} (KeyTurn min_by_ordering min_by_ordering g nat_cmp) p xs q
        → FoldsTo (λ b z c. c ≡ lesser b z) p.1 xs q.1
    turns [] p q a b c = ap (λ w. w.1) c
    turns (x ∷ xs) p q a b c =
        let m = keyed x c.1.0 c.0.0.0 (subst (λ w. CalledAt g w x c.1.0 c.0.0.0) a c.1.2) in
        let o : nat_cmp (key p.1) (key x) ≡ c.1.1 = rw (← b, ← m.1) c.1.3 in
        (c.0.1, rw o c.1.5, turns xs c.0 q m.0 (c.1.4 ∙ rw (b, m.1) (key_of c.1.1 p.1 x) ∙ ap key (sym c.1.5)) c.2)

    picks : {S : Type 0} (steps : S → Option ℕ → S → Type 0) (s : S) (r : Option ℕ) → PicksMinByKey steps g nat_cmp s f r
        → MatchOption r (Drains steps s []) (λ y. (x : ℕ) × (xs : List ℕ) × Drains steps s (x ∷ xs) × FoldsTo (λ b z c. c ≡ lesser b z) x xs y)
    picks steps s None h = h
    picks steps s (Some y) h = let m = keyed h.0 h.2 h.3 h.6 in (h.0, h.1, h.5, turns h.1 ((h.3, h.2), h.0) (h.4, y) m.0 m.1 h.7)

  -- ---- the same turns over the numbers of a range that pass a test
  module _ (t : ℕ → Bool) (n : ℕ) where
    abbrev best : ℕ → ℕ
    best i = least_by t key n i

    best_next : (i : ℕ) → best (suc i) ≡ cond (t i && (eqb (best i) n || ltb (key i) (key (best i)))) i (best i)
    unfolding least_by
    best_next i = refl

    best_le : (i : ℕ) → i ≤ n → best i ≤ n
    unfolding least_by
    best_le zero l = omega arith
    best_le (suc i) l = cond_both _ i (best i) (λ x. x ≤ n) (λ _. omega arith) (λ _. best_le i (omega arith))

    -- the turns over xs, from the best so far
    abbrev onward : Option ℕ → List ℕ → Option ℕ
    onward None xs = reduce lesser xs
    onward (Some b) xs = Some (fold lesser b xs)

    onward_nil : (o : Option ℕ) → onward o [] ≡ o
    onward_nil None = refl
    onward_nil (Some b) = refl

    onward_turn : (a : ℕ) → a < n → t a ≡ true → (xs : List ℕ) → onward (found n (best a)) (a ∷ xs) ≡ onward (found n (best (suc a))) xs
    onward_turn a l h xs = elim (dec_lt (best a) n) [
      | yes m ↦
          let apart : eqb (best a) n ≡ false = ne_eqb (best a) n (λ e. absurd (omega arith)) in
          let next : best (suc a) ≡ cond (ltb (key a) (key (best a))) a (best a) = best_next a ∙ rw (h, apart) in
          let inside : best (suc a) < n = rw next (cond_both _ a (best a) (λ x. x < n) (λ _. l) (λ _. m)) in
          rw (← found_here n (best a) m, ← found_here n (best (suc a)) inside, next, lesser_is (best a) a _ refl)
      | no m ↦
          let none : best a ≡ n = omega (arith, best_le a (omega arith)) in
          let next : best (suc a) ≡ a = best_next a ∙ rw (h, eq-eqb (best a) n none) in
          rw (next, ← found_none n (best a) (omega arith), ← found_here n a l)
    ]

    onward_range : (m a : ℕ) → a + m ≡ n → onward (found n (best a)) (filter t (range_with_len a m)) ≡ found n (best n)
    onward_range zero a e = let same : a ≡ n = omega arith in onward_nil (found n (best a)) ∙ rw same
    onward_range (suc m) a e =
        let rest = onward_range m (suc a) (omega arith) in
        ⊎_elim
        (λ (p : t a ≡ true).
        let whole : filter t (range_with_len a (suc m)) ≡ a ∷ filter t (range_with_len (suc a) m) = rw (p, add-one) in
        rw whole (onward_turn a (omega arith) p _ ∙ rest))
        (λ (p : t a ≡ false).
        let whole : filter t (range_with_len a (suc m)) ≡ filter t (range_with_len (suc a) m) = rw (p, add-one) in
        let next : best (suc a) ≡ best a = best_next a ∙ rw p in
        rw whole (rw next at rest))
        (either (t a))

    reduce_range : reduce lesser (filter t (range_with_len 0 n)) ≡ found n (best n)
    unfolding least_by
    reduce_range = rw (← found_none n n (omega arith)) at (onward_range n 0 (omega arith))

range_below : (m a n : ℕ) → a + m ≡ n → All (λ x. x < n) (range_with_len a m)
range_below zero a n e = All-nil (λ x. x < n)
range_below (suc m) a n e = All-cons (λ x. x < n) a (range_with_len (a + 1) m) (omega arith) (range_below m (a + 1) n (omega arith))

-- ---- `(0..n).filter(..).min_by_key(..)`
module _ {E : Type 0} (test : Mut E (Bor ℕ × Unit {0}) Bool) {e : E} (t : ℕ → Bool) (n : ℕ) {s : Filter (Range ℕ) E} (source : filter_source s ≡ record { start = 0; end = n }) (callee : filter_callee s ≡ e)
    (tested : (x : ℕ) (b : Bool) (q : E) → CalledAt test e x b q → (q ≡ e) × (b ≡ t x)) where
  abbrev steps : Filter (Range ℕ) E → Option ℕ → Filter (Range ℕ) E → Type 0
  steps = filter_steps nat_range_steps test

  road : YieldsList steps (λ x. x) s (filter t (range_with_len 0 n))
  road = YieldsList-from_filter test t (YieldsList-from_range 0 n n source (omega arith)) callee tested

  below : (xs : List ℕ) (j u : Filter (Range ℕ) E) (x : ℕ) → Yields steps s xs j → steps j (Some x) u → x < n
  below xs j u x y h =
      let m = YieldsList-turn road xs j y (Some x) u x refl h in
      rw (← m.1) at (All-filter t (λ x. x < n) (range_with_len 0 n) (range_below n 0 n (omega arith)) (length xs) x m.0)

  module _ {F : Type 0} (g : Mut F (Bor ℕ × Unit {0}) ℕ) {f : F} where
    -- the key may be asked of each number that comes, since it is below n
    pub takes_below : ((x : ℕ) (q : F) → x < n → TakesAt g q x) → CallableInMinByKey steps g nat_cmp s f
    takes_below h = λ x j c. (h x f (below [] s j x refl c), λ k q _. record { at = λ xs u w z v y _ d. h z w.0.0 (below (x ∷ xs) u v z (j, c, y) d) })

    pub picks_least : (key : ℕ → ℕ) (r : Option ℕ) → PicksMinByKey steps g nat_cmp s f r → ((x k : ℕ) (q : F) → CalledAt g f x k q → (q ≡ f) × (k ≡ key x)) → r ≡ found n (least_by t key n n)
    picks_least key r ran keyed = reduce_from_yields_List (lesser key) s r (picks key g f keyed steps s r ran) road ∙ reduce_range key t n
