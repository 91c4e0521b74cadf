-- Lists of numbers: what stands in one, those that pass a test, and a list put in order, for any test and order.
-- Assumes nothing.
use mathlib.Core.Path.{◌≡◌, refl, ap, ◌∙◌}
use mathlib.Core.Bool.{Bool, true, false, cond}
use mathlib.Core.List.{List, [], ◌∷◌, ◌++◌, append-nil}
use mathlib.Core.Logic.{◌⊎◌, inl, inr, ⊎_elim}
use Prim.Native.Nat.{ℕ, zero, suc, ◌≤◌, ◌<◌}
use native.Mathlib.Decide.{ℕ_discrete}
use native.Mathlib.Omega.{arith}
use lib.ListN.{length, length-append}
use Rattle.laws.specs.Lists.{those, inserted, in_order}
use Rattle.laws.proofs.Cases.{either}

-- the number stands in the list
abbrev pub In : ℕ → List ℕ → Type 0
In x [] = ⊥
In x (y ∷ ys) = (x ≡ y) ⊎ In x ys

-- each number of a list is so to all that follow it
abbrev pub Sorted : (ℕ → ℕ → Type 0) → List ℕ → Type 0
Sorted R [] = Unit {0}
Sorted R (x ∷ xs) = ((y : ℕ) → In y xs → R x y) × Sorted R xs

abbrev pub Differ : ℕ → ℕ → Type 0
Differ x y = x ≡ y → ⊥

pub sorted_by : {R S : ℕ → ℕ → Type 0} (xs : List ℕ) → ((x y : ℕ) → In x xs → In y xs → R x y → S x y) → Sorted R xs → Sorted S xs
sorted_by [] h r = tt
sorted_by (x ∷ xs) h r = (λ y i. h x y (inl refl) (inr i) (r.0 y i), sorted_by xs (λ y z i j. h y z (inr i) (inr j)) r.1)

-- one list after the other
in_left : (x : ℕ) (xs ys : List ℕ) → In x xs → In x (xs ++ ys)
in_left x [] ys i = absurd i
in_left x (z ∷ xs) ys (inl e) = inl e
in_left x (z ∷ xs) ys (inr i) = inr (in_left x xs ys i)

in_right : (x : ℕ) (xs ys : List ℕ) → In x ys → In x (xs ++ ys)
in_right x [] ys i = i
in_right x (z ∷ xs) ys i = inr (in_right x xs ys i)

in_either : (x : ℕ) (xs ys : List ℕ) → In x (xs ++ ys) → In x xs ⊎ In x ys
in_either x [] ys i = inr i
in_either x (z ∷ xs) ys (inl e) = inl (inl e)
in_either x (z ∷ xs) ys (inr i) = ⊎_elim (λ j. inl (inr j)) (λ j. inr j) (in_either x xs ys i)

sorted_one : (R : ℕ → ℕ → Type 0) (xs : List ℕ) (n : ℕ) → Sorted R xs → ((x : ℕ) → In x xs → R x n) → Sorted R (xs ++ (n ∷ []))
sorted_one R [] n r h = (λ y i. absurd i, tt)
sorted_one R (x ∷ xs) n r h = (λ y i. ⊎_elim (λ j. r.0 y j) (λ j. ⊎_elim (λ e. rw e (h x (inl refl))) (λ k. absurd k) j) (in_either y xs (n ∷ []) i), sorted_one R xs n r.1 (λ y i. h y (inr i)))

-- those below a number that pass a test: all of them, no other, and rising
module _ (t : ℕ → Bool) where
  those_hit : (n : ℕ) → t n ≡ true → those t (suc n) ≡ those t n ++ (n ∷ [])
  unfolding those
  those_hit n p = rw p

  those_miss : (n : ℕ) → t n ≡ false → those t (suc n) ≡ those t n
  unfolding those
  those_miss n p = ap (λ (b : Bool). those t n ++ cond b (n ∷ []) []) p ∙ append-nil (those t n)

  pub in_those : (n i : ℕ) → i < n → t i ≡ true → In i (those t n)
  in_those zero i l p = absurd (omega arith)
  in_those (suc n) i l p =
      let before = in_those n i in
      elim (ℕ_discrete i n) [
        | yes e ↦ rw (those_hit n (rw e at p)) (in_right i (those t n) (n ∷ []) (inl e))
        | no d ↦
            let earlier = before (omega arith) p in
            ⊎_elim (λ q. rw (those_hit n q) (in_left i (those t n) (n ∷ []) earlier)) (λ q. rw (those_miss n q) earlier) (either (t n))
      ]

  pub those_in : (n i : ℕ) → In i (those t n) → (i < n) × (t i ≡ true)
  unfolding those
  those_in zero i h = absurd h
  those_in (suc n) i h =
      let before : In i (those t n) → (i < suc n) × (t i ≡ true) = λ j. let r = those_in n i j in (omega arith, r.1) in
      ⊎_elim
      (λ p. ⊎_elim before (λ j. ⊎_elim (λ e. (omega arith, rw e p)) (λ k. absurd k) j) (in_either i (those t n) (n ∷ []) (rw (those_hit n p) at h)))
      (λ p. before (rw (those_miss n p) at h))
      (either (t n))

  pub those_rise : (n : ℕ) → Sorted ◌<◌ (those t n)
  unfolding those
  those_rise zero = tt
  those_rise (suc n) =
      ⊎_elim
      (λ p. rw (those_hit n p) (sorted_one ◌<◌ (those t n) n (those_rise n) (λ x i. (those_in n x i).0)))
      (λ p. rw (those_miss n p) (those_rise n))
      (either (t n))

  pub those_few : (n : ℕ) → length (those t n) ≤ n
  unfolding those
  those_few zero = omega arith
  those_few (suc n) =
      let before = those_few n in
      ⊎_elim (λ p. rw (those_hit n p, length-append) (omega arith)) (λ p. rw (those_miss n p) (omega arith)) (either (t n))

pub those_same : (t u : ℕ → Bool) (n : ℕ) → ((i : ℕ) → i < n → t i ≡ u i) → those t n ≡ those u n
unfolding those
those_same t u zero h = refl
those_same t u (suc n) h = rw (h n (omega arith), those_same t u n (λ i l. h i (omega arith)))

-- a list put in order: the same numbers
module _ (before : ℕ → ℕ → Bool) where
  in_inserted : (z x : ℕ) (ys : List ℕ) → In z (x ∷ ys) → In z (inserted before x ys)
  unfolding inserted
  in_inserted z x [] i = i
  in_inserted z x (y ∷ ys) i =
      let on = in_inserted z x ys in
      ⊎_elim (λ e. rw e i) (λ e. rw e (⊎_elim (λ q. inr (on (inl q))) (λ j. ⊎_elim (λ q. inl q) (λ k. inr (on (inr k))) j) i)) (either (before x y))

  inserted_in : (z x : ℕ) (ys : List ℕ) → In z (inserted before x ys) → In z (x ∷ ys)
  unfolding inserted
  inserted_in z x [] i = i
  inserted_in z x (y ∷ ys) i =
      let on = inserted_in z x ys in
      ⊎_elim
      (λ e. rw e at i)
      (λ e. ⊎_elim (λ q. inr (inl q)) (λ j. ⊎_elim (λ q. inl q) (λ k. inr (inr k)) (on j)) (rw e at i))
      (either (before x y))

  pub in_order_lem : (z : ℕ) (xs : List ℕ) → In z xs → In z (in_order before xs)
  unfolding in_order
  in_order_lem z [] i = i
  in_order_lem z (x ∷ xs) (inl e) = in_inserted z x (in_order before xs) (inl e)
  in_order_lem z (x ∷ xs) (inr i) = in_inserted z x (in_order before xs) (inr (in_order_lem z xs i))

  pub order_in : (z : ℕ) (xs : List ℕ) → In z (in_order before xs) → In z xs
  unfolding in_order
  order_in z [] i = i
  order_in z (x ∷ xs) i = ⊎_elim (λ e. inl e) (λ j. inr (order_in z xs j)) (inserted_in z x (in_order before xs) i)

  inserted_length : (x : ℕ) (ys : List ℕ) → length (inserted before x ys) ≡ suc (length ys)
  unfolding inserted
  inserted_length x [] = refl
  inserted_length x (y ∷ ys) = ⊎_elim (λ e. rw e) (λ e. rw e (ap suc (inserted_length x ys))) (either (before x y))

  pub order_length : (xs : List ℕ) → length (in_order before xs) ≡ length xs
  unfolding in_order
  order_length [] = refl
  order_length (x ∷ xs) = inserted_length x (in_order before xs) ∙ ap suc (order_length xs)

  -- in order, where of any two numbers that differ one comes before the other
  abbrev pub Before : ℕ → ℕ → Type 0
  Before x y = before x y ≡ true

  module _ (P : ℕ → Type 0) (strict : (x y : ℕ) → P x → P y → Differ x y → before x y ≡ false → Before y x) (through : (x y z : ℕ) → Before x y → Before y z → Before x z) where
    inserted_sorted : (x : ℕ) (ys : List ℕ) → P x → ((y : ℕ) → In y ys → P y × Differ x y) → Sorted Before ys → Sorted Before (inserted before x ys)
    unfolding inserted
    inserted_sorted x [] p h r = (λ y i. absurd i, tt)
    inserted_sorted x (y ∷ ys) p h r =
        let own = h y (inl refl) in
        let on = inserted_sorted x ys p (λ z i. h z (inr i)) r.1 in
        ⊎_elim
        (λ e. rw e ((λ z i. ⊎_elim (λ q. rw q e) (λ j. through x y z e (r.0 z j)) i, r)))
        (λ e. rw e ((λ z i. ⊎_elim (λ q. rw q (strict x y p own.0 own.1 e)) (λ j. r.0 z j) (inserted_in z x ys i), on)))
        (either (before x y))

    pub order_sorted : (xs : List ℕ) → ((x : ℕ) → In x xs → P x) → Sorted Differ xs → Sorted Before (in_order before xs)
    unfolding in_order
    order_sorted [] h r = tt
    order_sorted (x ∷ xs) h r =
        inserted_sorted x (in_order before xs) (h x (inl refl)) (λ y i. (h y (inr (order_in y xs i)), r.0 y (order_in y xs i))) (order_sorted xs (λ y i. h y (inr i)) r.1)

-- two orders that agree on the numbers of a list
module _ (before also : ℕ → ℕ → Bool) where
  inserted_same : (x : ℕ) (ys : List ℕ) → ((y : ℕ) → In y ys → before x y ≡ also x y) → inserted before x ys ≡ inserted also x ys
  unfolding inserted
  inserted_same x [] h = refl
  inserted_same x (y ∷ ys) h = rw (h y (inl refl), inserted_same x ys (λ z i. h z (inr i)))

  pub order_same : (xs : List ℕ) → ((x y : ℕ) → In x xs → In y xs → before x y ≡ also x y) → in_order before xs ≡ in_order also xs
  unfolding in_order
  order_same [] h = refl
  order_same (x ∷ xs) h =
      rw (order_same xs (λ y z i j. h y z (inr i) (inr j)))
      (inserted_same x (in_order also xs) (λ y i. h x y (inl refl) (inr (order_in also y xs i))))
