-- What a search finds: the least number that passes a test, the one with the least key; and what counts of two tests differ by.
-- Assumes nothing.
use mathlib.Core.Path.{◌≡◌, refl, sym, ap, ◌∙◌}
use mathlib.Core.Bool.{Bool, true, ◌&&◌, ◌||◌}
use mathlib.Core.Logic.{⊎_elim}
use Prim.Native.Nat.{ℕ, zero, suc, ◌+◌, ◌≤◌, ◌<◌}
use native.Mathlib.Decide.{ℕ_discrete}
use native.Mathlib.Nat.{eq-or-lt_of_le}
use native.Mathlib.Omega.{arith}
use lib.Dec.{eqb, ltb}
use Rattle.laws.specs.Search.{least, least_by, count}
use Rattle.laws.proofs.Cases.{either, clash, and_left}
use Rattle.laws.proofs.Least.{least_hit, least_miss, least_none, count_hit, count_miss, count_none}

module _ (t : ℕ → Bool) where
  -- what is found passes the test
  pub least_holds : (n i : ℕ) → least t n i < i + n → t (least t n i) ≡ true
  least_holds zero i h = absurd (omega (arith, least_none t i))
  least_holds (suc n) i h =
      let later = least_holds n (suc i) in
      ⊎_elim
      (λ p. rw (least_hit t n i p) p)
      (λ p. rw (least_miss t n i p) (later (omega (arith, least_miss t n i p))))
      (either (t i))

  -- nothing that passes stands before it
  pub least_first : (n i j : ℕ) → i ≤ j → j < i + n → t j ≡ true → least t n i ≤ j
  least_first zero i j g h p = absurd (omega arith)
  least_first (suc n) i j g h p =
      let later = least_first n (suc i) j in
      ⊎_elim
      (λ q. omega (arith, least_hit t n i q))
      (λ q. ⊎_elim
      (λ (e : i ≡ j). clash p (rw e at q))
      (λ (l : i < j). omega (arith, least_miss t n i q, later l (omega arith) p))
      (eq-or-lt_of_le g))
      (either (t i))

  -- where some number passes, one is found
  pub count_finds : (n i : ℕ) → 0 < count t n i → least t n i < i + n
  count_finds zero i h = absurd (omega (arith, count_none t i))
  count_finds (suc n) i h =
      let later = count_finds n (suc i) in
      ⊎_elim
      (λ p. omega (arith, least_hit t n i p))
      (λ p. omega (arith, least_miss t n i p, later (omega (arith, count_miss t n i p))))
      (either (t i))

  count_least : (n i : ℕ) → count t n (suc i) ≤ count t (suc n) i
  count_least n i = ⊎_elim (λ p. omega (arith, count_hit t n i p)) (λ p. omega (arith, count_miss t n i p)) (either (t i))

  count_most : (n i : ℕ) → count t (suc n) i ≤ suc (count t n (suc i))
  count_most n i = ⊎_elim (λ p. omega (arith, count_hit t n i p)) (λ p. omega (arith, count_miss t n i p)) (either (t i))

-- a number below n that passes the test
pub record Found (t : ℕ → Bool) (n k : ℕ) : Type 0 where
  pub below : k < n
  pub passes : t k ≡ true

-- the number with the least key is such a one
pub found_by : (t : ℕ → Bool) (key : ℕ → ℕ) (none n : ℕ) → (least_by t key none n ≡ none → ⊥) → Found t n (least_by t key none n)
unfolding least_by
found_by t key none zero h = absurd (h refl)
found_by t key none (suc n) h =
    let before = least_by t key none n in
    let better = eqb before none || ltb (key n) (key before) in
    let earlier = found_by t key none n in
    ⊎_elim
    (λ e. rw e (record { below = omega arith; passes = and_left (t n) better e }))
    (λ e. let f = earlier (λ z. h (rw e z)) in rw e (record { below = omega (arith, f.below); passes = f.passes }))
    (either (t n && better))

module _ (t u : ℕ → Bool) where
  -- tests that agree on a range have the same least number
  pub least_same : (n i : ℕ) → ((j : ℕ) → i ≤ j → j < i + n → t j ≡ u j) → least t n i ≡ least u n i
  least_same zero i h = least_none t i ∙ sym (least_none u i)
  least_same (suc n) i h =
      let later = least_same n (suc i) (λ j g l. h j (omega arith) (omega arith)) in
      let here = h i (omega arith) (omega arith) in
      ⊎_elim
      (λ e. least_hit t n i e ∙ sym (least_hit u n i (sym here ∙ e)))
      (λ e. least_miss t n i e ∙ later ∙ sym (least_miss u n i (sym here ∙ e)))
      (either (t i))

  count_both : (n i : ℕ) → t i ≡ u i → count t n (suc i) ≤ suc (count u n (suc i)) → count t (suc n) i ≤ suc (count u (suc n) i)
  count_both n i e h =
      ⊎_elim
      (λ p. omega (arith, count_hit t n i p, count_hit u n i (sym e ∙ p)))
      (λ p. omega (arith, count_miss t n i p, count_miss u n i (sym e ∙ p)))
      (either (t i))

  count_same : (n i : ℕ) → ((j : ℕ) → i ≤ j → t j ≡ u j) → count t n i ≡ count u n i
  count_same zero i h = count_none t i ∙ sym (count_none u i)
  count_same (suc n) i h =
      let later = count_same n (suc i) (λ j g. h j (omega arith)) in
      let here = h i (omega arith) in
      ⊎_elim
      (λ p. count_hit t n i p ∙ ap suc later ∙ sym (count_hit u n i (sym here ∙ p)))
      (λ p. count_miss t n i p ∙ later ∙ sym (count_miss u n i (sym here ∙ p)))
      (either (t i))

  -- two tests that differ in one number at most differ in their count by one at most
  pub count_but_one : (a : ℕ) → ((j : ℕ) → (j ≡ a → ⊥) → t j ≡ u j) → (n i : ℕ) → count t n i ≤ suc (count u n i)
  count_but_one a h zero i = omega (arith, count_none t i)
  count_but_one a h (suc n) i =
      elim (ℕ_discrete i a) [
        | yes e ↦ omega (arith, count_most t n i, count_same n (suc i) (λ j g. h j (λ q. omega arith)), count_least u n i)
        | no e ↦ count_both n i (h i e) (count_but_one a h n (suc i))
      ]
