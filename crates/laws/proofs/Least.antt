-- Laws of the least number at which a test holds, of a count, and of a test over a range.
-- Assumes nothing.
use mathlib.Core.Path.{◌≡◌, refl, sym, ◌∙◌}
use mathlib.Core.Bool.{Bool, true, false, not}
use Prim.Native.Nat.{ℕ, zero, suc, ◌+◌, ◌-◌, ◌≤◌, ◌<◌}
use mathlib.Core.Logic.{⊎_elim}
use native.Mathlib.Nat.{eq-or-lt_of_le}
use native.Mathlib.Numerals.{add-one, one-add}
use native.Mathlib.Omega.{arith}
use borrow.Author.Tests.{not-true, not-false}
use Rattle.laws.specs.Search.{least, count, all}
use Rattle.laws.proofs.Cases.{clash, either}

module _ (t : ℕ → Bool) where
  pub least_hit : (s i : ℕ) → t i ≡ true → least t (suc s) i ≡ i
  unfolding least
  least_hit s i e = rw (e, least)

  pub least_miss : (s i : ℕ) → t i ≡ false → least t (suc s) i ≡ least t s (suc i)
  unfolding least
  least_miss s i e = rw (e, least)

  pub least_none : (i : ℕ) → least t 0 i ≡ i
  unfolding least
  least_none i = refl

  pub count_hit : (s i : ℕ) → t i ≡ true → count t (suc s) i ≡ suc (count t s (suc i))
  unfolding count
  count_hit s i e = rw (e, count)

  pub count_miss : (s i : ℕ) → t i ≡ false → count t (suc s) i ≡ count t s (suc i)
  unfolding count
  count_miss s i e = rw (e, count)

  pub count_none : (i : ℕ) → count t 0 i ≡ 0
  unfolding count
  count_none i = refl

  pub count_le : (s i : ℕ) → count t s i ≤ s
  count_le zero i = omega (arith, count_none i)
  count_le (suc s) i =
      let later = count_le s (suc i) in
      ⊎_elim (λ p. omega (arith, count_hit s i p, later)) (λ p. omega (arith, count_miss s i p, later)) (either (t i))

  pub all_hit : (s i : ℕ) → t i ≡ true → all t (suc s) i ≡ all t s (suc i)
  unfolding all
  all_hit s i e = rw (e, all)

  pub all_miss : (s i : ℕ) → t i ≡ false → all t (suc s) i ≡ false
  unfolding all
  all_miss s i e = rw (e, all)

  pub all_none : (i : ℕ) → all t 0 i ≡ true
  unfolding all
  all_none i = refl

  -- what the test over a range says of each number
  pub all_at : (s i : ℕ) → all t s i ≡ true → (j : ℕ) → i ≤ j → j < i + s → t j ≡ true
  all_at zero i e j h l = absurd (omega arith)
  all_at (suc s) i e j h l =
      let later = all_at s (suc i) in
      ⊎_elim
      (λ p. ⊎_elim (λ (q : i ≡ j). rw q at p) (λ (m : i < j). later (sym (all_hit s i p) ∙ e) j m (omega arith)) (eq-or-lt_of_le h))
      (λ p. clash e (all_miss s i p))
      (either (t i))

-- two tests that agree on a range
pub all_same : (t u : ℕ → Bool) (s i : ℕ) → ((j : ℕ) → i ≤ j → j < i + s → t j ≡ u j) → all t s i ≡ all u s i
all_same t u zero i h = all_none t i ∙ sym (all_none u i)
all_same t u (suc s) i h =
    let later = all_same t u s (suc i) (λ j g l. h j (omega arith) (omega arith)) in
    let here = h i (omega arith) (omega arith) in
    ⊎_elim
    (λ p. all_hit t s i p ∙ later ∙ sym (all_hit u s i (sym here ∙ p)))
    (λ p. all_miss t s i p ∙ sym (all_miss u s i (sym here ∙ p)))
    (either (t i))

-- The same for a loop that counts i up to n by one: what is left to do from i on, in the code's i + 1.
module _ (t : ℕ → Bool) (n i : ℕ) (l : i < n) where
  left_one : n - i ≡ suc (n - (i + 1))
  left_one = omega arith

  pub least_here : t i ≡ true → least t (n - i) i ≡ i
  least_here e = rw left_one (least_hit t _ i e)

  pub least_on : t i ≡ false → least t (n - i) i ≡ least t (n - (i + 1)) (i + 1)
  least_on e = rw (left_one, add-one i) (least_miss t _ i e)

  pub count_here : t i ≡ true → count t (n - i) i ≡ 1 + count t (n - (i + 1)) (i + 1)
  count_here e = rw (left_one, one-add, add-one i) (count_hit t _ i e)

  pub count_on : t i ≡ false → count t (n - i) i ≡ count t (n - (i + 1)) (i + 1)
  count_on e = rw (left_one, add-one i) (count_miss t _ i e)

  pub all_here : t i ≡ false → all t (n - i) i ≡ false
  all_here e = rw left_one (all_miss t _ i e)

  pub all_on : t i ≡ true → all t (n - i) i ≡ all t (n - (i + 1)) (i + 1)
  all_on e = rw (left_one, add-one i) (all_hit t _ i e)

module _ (t : ℕ → Bool) (n i : ℕ) (g : n ≤ i) where
  pub least_end : least t (n - i) i ≡ i
  least_end = let e : n - i ≡ 0 = omega arith in rw e (least_none t i)

  pub count_end : count t (n - i) i ≡ 0
  count_end = let e : n - i ≡ 0 = omega arith in rw e (count_none t i)

  pub all_end : all t (n - i) i ≡ true
  all_end = let e : n - i ≡ 0 = omega arith in rw e (all_none t i)

-- A loop that tests i up to n by one and leaves at the first failure: what is left to test decides, and each way on.
pub record Rest (t : ℕ → Bool) (n i : ℕ) (whole : Bool) : Type 0 where
  pub decides : all t (n - i) i ≡ whole

module _ {t : ℕ → Bool} {n i : ℕ} {whole : Bool} (r : Rest t n i whole) where
  pub loop_fails : {b : Bool} → i < n → b ≡ t i → not b ≡ true → false ≡ whole
  loop_fails {b} l e f = sym (all_here t n i l (sym e ∙ not-true b f)) ∙ r.decides

  pub loop_passes : {b : Bool} → i < n → b ≡ t i → not b ≡ false → Rest t n (i + 1) whole
  loop_passes {b} l e f = record { decides = sym (all_on t n i l (sym e ∙ not-false b f)) ∙ r.decides }

  pub loop_ends : n ≤ i → true ≡ whole
  loop_ends g = sym (all_end t n i g) ∙ r.decides
