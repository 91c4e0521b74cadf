-- The largest number at which a test holds: what it is, and how it is told by an interval, for any test that, once it fails, fails above.
-- Assumes nothing.
use mathlib.Core.Path.{◌≡◌, refl, sym, ap, ◌∙◌}
use mathlib.Core.Bool.{Bool, true, false}
use mathlib.Core.Logic.{◌⊎◌, inl, inr, ⊎_elim}
use Prim.Native.Nat.{ℕ, zero, suc, ◌+◌, ◌≤◌, ◌<◌}
use native.Mathlib.Nat.{le_refl, eq-or-lt_of_le, le_of_suc-le-suc, lt_of_not-le}
use native.Mathlib.Omega.{arith}
use Rattle.laws.specs.Search.{largest}
use Rattle.laws.proofs.Cases.{clash, either}

module _ (t : ℕ → Bool) where
  pub largest_hit : (n : ℕ) → t (suc n) ≡ true → largest t (suc n) ≡ suc n
  unfolding largest
  largest_hit n e = rw (e, largest)

  pub largest_miss : (n : ℕ) → t (suc n) ≡ false → largest t (suc n) ≡ largest t n
  unfolding largest
  largest_miss n e = rw (e, largest)

  -- k is the largest where it is 0 or passes, and every number above it fails
  pub largest_unique : (n k : ℕ) → k ≤ n → (k ≡ 0) ⊎ (t k ≡ true) → ((j : ℕ) → k < j → j ≤ n → t j ≡ false) → k ≡ largest t n
  unfolding largest
  largest_unique zero k le here above = omega arith
  largest_unique (suc n) k le here above =
      go (eq-or-lt_of_le le) (λ l. largest_unique n k (le_of_suc-le-suc l) here (λ j a b. above j a (omega arith)))
    where
      top : k ≡ suc n → (k ≡ 0) ⊎ (t k ≡ true) → k ≡ largest t (suc n)
      top e (inl z) = absurd (omega arith)
      top e (inr h) = e ∙ sym (largest_hit n (rw e at h))

      go : (k ≡ suc n) ⊎ (k < suc n) → (k < suc n → k ≡ largest t n) → k ≡ largest t (suc n)
      go (inl e) rest = top e here
      go (inr l) rest = rest l ∙ sym (largest_miss n (above (suc n) l (le_refl (suc n))))

  pub largest_le : (n : ℕ) → largest t n ≤ n
  unfolding largest
  largest_le zero = le_refl 0
  largest_le (suc n) =
      let below = largest_le n in
      ⊎_elim (λ e. omega (arith, largest_hit n e)) (λ e. omega (arith, largest_miss n e, below)) (either (t (suc n)))

  pub largest_holds : (n : ℕ) → t 0 ≡ true → t (largest t n) ≡ true
  unfolding largest
  largest_holds zero z = z
  largest_holds (suc n) z =
      let below = largest_holds n z in
      ⊎_elim (λ e. ap t (largest_hit n e) ∙ e) (λ e. ap t (largest_miss n e) ∙ below) (either (t (suc n)))

  pub largest_above : (n j : ℕ) → largest t n < j → j ≤ n → t j ≡ false
  unfolding largest
  largest_above zero j l h = absurd (omega arith)
  largest_above (suc n) j l h =
      let below = largest_above n j in
      ⊎_elim (λ e. absurd (omega (arith, largest_hit n e)))
      (λ e. ⊎_elim (λ (s : j ≡ suc n). ap t s ∙ e) (λ (m : j < suc n). below (omega (arith, largest_miss n e)) (le_of_suc-le-suc m)) (eq-or-lt_of_le h))
      (either (t (suc n)))

  -- a number at which the test holds is no larger
  pub largest_most : (n k : ℕ) → k ≤ n → t k ≡ true → k ≤ largest t n
  largest_most n k h e = le_of_suc-le-suc (lt_of_not-le (λ (l : largest t n < k). clash e (largest_above n k l h)))

-- a test that fails everywhere has none
pub largest_none : (t : ℕ → Bool) → ((k : ℕ) → t k ≡ false) → (n : ℕ) → largest t n ≡ 0
unfolding largest
largest_none t h zero = refl
largest_none t h (suc n) = largest_miss t n (h (suc n)) ∙ largest_none t h n

-- tests that agree have the same largest number
pub largest_same : (t u : ℕ → Bool) → ((k : ℕ) → t k ≡ u k) → (n : ℕ) → largest t n ≡ largest u n
unfolding largest
largest_same t u h zero = refl
largest_same t u h (suc n) =
    let below = largest_same t u h n in
    ⊎_elim
    (λ e. largest_hit t n e ∙ sym (largest_hit u n (sym (h (suc n)) ∙ e)))
    (λ e. largest_miss t n e ∙ below ∙ sym (largest_miss u n (sym (h (suc n)) ∙ e)))
    (either (t (suc n)))

-- a test that fails at all numbers above one at which it fails
unfoldable pub Falling : (ℕ → Bool) → Type 0
Falling t = (i j : ℕ) → i ≤ j → t i ≡ false → t j ≡ false

-- such a test holds at all numbers up to the largest
pub falling_below : (t : ℕ → Bool) (n k : ℕ) → Falling t → t 0 ≡ true → k ≤ largest t n → t k ≡ true
unfolding Falling
falling_below t n k f z h = ⊎_elim (λ e. e) (λ e. clash (largest_holds t n z) (f k (largest t n) h e)) (either (t k))

-- the largest is at least lo and below hi
pub record Between (t : ℕ → Bool) (n lo hi : ℕ) : Type 0 where
  pub apart : lo < hi
  pub within : hi ≤ n + 1
  pub low : (lo ≡ 0) ⊎ (t lo ≡ true)
  pub high : hi ≤ n → t hi ≡ false

module _ (t : ℕ → Bool) (n : ℕ) where
  -- the interval is one number: the answer
  pub between_end : (lo hi : ℕ) → Falling t → Between t n lo hi → hi ≤ lo + 1 → lo ≡ largest t n
  unfolding Falling
  between_end lo hi f b h =
      largest_unique t n lo (omega (arith, b.apart, b.within)) b.low
      (λ j l m. f hi j (omega (arith, b.apart)) (b.high (omega (arith, b.apart))))
