-- The least of the keys of the rows that are due, from a bound on, is that of the first row left of the list.
-- Assumes nothing.
use mathlib.Core.Path.{◌≡◌, refl, sym, ap, ◌∙◌}
use mathlib.Core.Bool.{Bool, true, false}
use mathlib.Core.List.{List, [], ◌∷◌, ◌++◌, append-nil}
use mathlib.Core.Logic.{inl, inr, ⊎_elim}
use Prim.Native.Nat.{ℕ, zero, suc, ◌+◌, ◌*◌, ◌/◌, ◌%◌, ◌≤◌, ◌<◌, min}
use native.Mathlib.Decide.{ℕ_discrete}
use native.Mathlib.Omega.{arith}
use lib.Dec.{leb}
use borrow.Author.Tests.{leb-true, le-leb, leb-false}
use Rattle.std.specs.Prelude.{Option, Some, None}
use Rattle.std.specs.List.{filter, fold, reduce}
use Rattle.std.proofs.lemmas.List.Elements.{filter-append}
use Rattle.laws.proofs.Cases.{either}
use Rattle.laws.proofs.Lists.{In, Sorted}
use Rattle.book.specs.State.{State}
use Rattle.facts.specs.Good.{Good}
use Rattle.due_pairs.specs.Due.{due_of, order_of, key_of, keys_of, least_from}
use Rattle.due_pairs.proofs.Keys.{due_small}

-- the lesser of a key that may be there and another
abbrev lesser : Option ℕ → ℕ → ℕ
lesser None key = key
lesser (Some found) key = min found key

lesser_holds : (P : ℕ → Type 0) (found : Option ℕ) (key : ℕ) → ((k : ℕ) → found ≡ Some k → P k) → P key → P (lesser found key)
lesser_holds P None key h p = p
lesser_holds P (Some m) key h p =
    ⊎_elim
    (λ e. let l = leb-true m key e in let q : min m key ≡ m = omega arith in rw q (h m refl))
    (λ e. let l = leb-false m key e in let q : min m key ≡ key = omega arith in rw q p)
    (either (leb m key))

lesser_le : (found : Option ℕ) (key : ℕ) → lesser found key ≤ key
lesser_le None key = omega arith
lesser_le (Some m) key = omega arith

-- one key more, at the end
fold_last : (x : ℕ) (xs : List ℕ) (key : ℕ) → fold min x (xs ++ (key ∷ [])) ≡ min (fold min x xs) key
fold_last x [] key = refl
fold_last x (y ∷ xs) key = fold_last (min x y) xs key

reduce_last : (xs : List ℕ) (key : ℕ) → reduce min (xs ++ (key ∷ [])) ≡ Some (lesser (reduce min xs) key)
reduce_last [] key = refl
reduce_last (x ∷ xs) key = ap Some (fold_last x xs key)

some_same : {x y : ℕ} → Some x ≡ Some y → x ≡ y
some_same e = cc

-- for any test and order: the least is the key of a row that passes, from the bound on, and at most that of each such
module _ (t : ℕ → Bool) (order : ℕ → ℕ) (bound : ℕ) where
  abbrev least_of : ℕ → Option ℕ
  least_of n = least_from bound (keys_of t order n)

  one_hit : (n : ℕ) → t n ≡ true → bound ≤ key_of (order n) n → least_of (suc n) ≡ Some (lesser (least_of n) (key_of (order n) n))
  unfolding keys_of
  one_hit n p l =
      rw (p, filter-append (leb bound) (keys_of t order n) (key_of (order n) n ∷ []), le-leb bound (key_of (order n) n) l)
      (reduce_last (filter (leb bound) (keys_of t order n)) (key_of (order n) n))

  one_low : (n : ℕ) → t n ≡ true → leb bound (key_of (order n) n) ≡ false → least_of (suc n) ≡ least_of n
  unfolding keys_of
  one_low n p l =
      rw (p, filter-append (leb bound) (keys_of t order n) (key_of (order n) n ∷ []), l, append-nil (filter (leb bound) (keys_of t order n)))

  one_miss : (n : ℕ) → t n ≡ false → least_of (suc n) ≡ least_of n
  unfolding keys_of
  one_miss n p = rw p

  no_row : (k : ℕ) → least_of 0 ≡ Some k → ⊥
  unfolding keys_of
  no_row k e = cc

  -- one row more: the least of before, or the lesser of it and the new key
  one_more : (Q : Option ℕ → Type 0) (n : ℕ) → Q (least_of n) → (t n ≡ true → bound ≤ key_of (order n) n → Q (Some (lesser (least_of n) (key_of (order n) n)))) → Q (least_of (suc n))
  one_more Q n before hit =
      ⊎_elim
      (λ p. ⊎_elim
      (λ e. let l = leb-true bound (key_of (order n) n) e in rw (one_hit n p l) (hit p l))
      (λ e. rw (one_low n p e) before)
      (either (leb bound (key_of (order n) n))))
      (λ p. rw (one_miss n p) before)
      (either (t n))

  least_holds : (P : ℕ → Type 0) (n : ℕ) → ((i : ℕ) → i < n → t i ≡ true → bound ≤ key_of (order i) i → P (key_of (order i) i)) → (k : ℕ) → least_of n ≡ Some k → P k
  least_holds P zero h = λ k e. absurd (no_row k e)
  least_holds P (suc n) h =
      let before = least_holds P n (λ i l. h i (omega arith)) in
      one_more (λ o. (k : ℕ) → o ≡ Some k → P k) n before
      (λ p l k e. rw (← some_same e) (lesser_holds P (least_of n) (key_of (order n) n) before (h n (omega arith) p l)))

  least_le : (n i : ℕ) → i < n → t i ≡ true → bound ≤ key_of (order i) i → (k : ℕ) × (least_of n ≡ Some k) × (k ≤ key_of (order i) i)
  least_le zero i l p h = absurd (omega arith)
  least_le (suc n) i l p h =
      let before = least_le n i in
      elim (ℕ_discrete i n) [
        | yes e ↦ rw e (_, one_hit n (rw e at p) (rw e at h), lesser_le (least_of n) (key_of (order n) n))
        | no d ↦
            let b = before (omega arith) p h in
            one_more (λ o. (k : ℕ) × (o ≡ Some k) × (k ≤ key_of (order i) i)) n b
            (λ q m. (_, refl, rw b.1 (let k = b.2 in omega arith)))
      ]

-- what is left of the rows that are due, after a place in the order: all of them, no other, and in their order
pub record Ahead (s : State) (kind last : ℕ) (rows : List ℕ) : Type 0 where
  pub inside : (i : ℕ) → In i rows → (i < 256) × (due_of s kind i ≡ true) × (last < order_of s i)
  pub all : (i : ℕ) → i < 256 → due_of s kind i ≡ true → last < order_of s i → In i rows
  pub sorted : Sorted (λ i j. order_of s i < order_of s j) rows

pub ahead_next : {s : State} {kind last i : ℕ} {rows : List ℕ} → Ahead s kind last (i ∷ rows) → Ahead s kind (order_of s i) rows
ahead_next {s} {kind} {last} {i} {rows} a = record {
  inside = λ j h. let t = a.inside j (inr h) in (t.0, t.1, a.sorted.0 j h);
  all = λ j l d h. let own = a.inside i (inl refl) in ⊎_elim (λ e. absurd (let same : order_of s i < order_of s i = rw e at h in omega arith)) (λ k. k) (a.all j l d (omega arith));
  sorted = a.sorted.1;
}

module _ {s : State} (kind last : ℕ) (g : Good s) {keys : List ℕ} (c : keys ≡ keys_of (due_of s kind) (order_of s) 256) where
  least : least_from ((last + 1) * 256) keys ≡ least_of (due_of s kind) (order_of s) ((last + 1) * 256) 256
  least = rw c

  pub none_left : Ahead s kind last [] → {k : ℕ} → Some k ≡ least_from ((last + 1) * 256) keys → ⊥
  none_left a {k} q = least_holds (due_of s kind) (order_of s) ((last + 1) * 256) (λ x. ⊥) 256 (λ i l d h. a.all i l d (omega arith)) k (sym (q ∙ least))

  module _ {i : ℕ} {rows : List ℕ} (a : Ahead s kind last (i ∷ rows)) where
    own : (i < 256) × (due_of s kind i ≡ true) × (last < order_of s i)
    own = a.inside i (inl refl)

    small : order_of s i < 72057594037927935
    small = due_small s kind i g own.0 own.1

    lowest_key : (k : ℕ) × (least_of (due_of s kind) (order_of s) ((last + 1) * 256) 256 ≡ Some k) × (k ≤ key_of (order_of s i) i)
    lowest_key = least_le (due_of s kind) (order_of s) ((last + 1) * 256) 256 i own.0 own.1 (omega (arith, own.2))

    pub some_left : None ≡ least_from ((last + 1) * 256) keys → ⊥
    some_left q = let e : None ≡ Some lowest_key.0 = q ∙ least ∙ lowest_key.1 in cc

    module _ {k : ℕ} (q : Some k ≡ least_from ((last + 1) * 256) keys) where
      first_key : k ≡ key_of (order_of s i) i
      first_key =
          let t = due_of s kind in
          let key = key_of (order_of s i) i in
          let low : key ≤ k = least_holds t (order_of s) ((last + 1) * 256) (λ x. key ≤ x) 256 (λ j l d h.
          ⊎_elim (λ e. rw e (omega arith)) (λ m. omega (arith, a.sorted.0 j m, own.0)) (a.all j l d (omega arith))) k (sym (q ∙ least)) in
          let same : k ≡ lowest_key.0 = some_same (q ∙ least ∙ lowest_key.1) in
          omega (arith, lowest_key.2)

      pub next_row : k % 256 ≡ i
      next_row = omega (arith, first_key, own.0)

      pub next_order : k / 256 ≡ order_of s i
      next_order = omega (arith, first_key, own.0)

      pub next_fits : k / 256 < 72057594037927935
      next_fits = omega (arith, next_order, small)

      pub next_later : last < k / 256
      next_later = omega (arith, next_order, own.2)
