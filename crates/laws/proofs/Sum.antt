-- Laws of a sum.
-- Assumes nothing.
use mathlib.Core.Path.{◌≡◌, refl}
use mathlib.Core.Logic.{⊎_elim}
use Prim.Native.Nat.{ℕ, zero, suc, ◌+◌, ◌*◌, ◌≤◌, ◌<◌}
use native.Mathlib.Nat.{eq-or-lt_of_le, le_of_suc-le-suc}
use native.Mathlib.Numerals.{add-one}
use native.Mathlib.Omega.{arith}
use Rattle.laws.specs.Sum.{sum}

-- one number more, in the code's i + 1
pub sum_next : (f : ℕ → ℕ) (i : ℕ) → sum f (i + 1) ≡ sum f i + f i
unfolding sum
sum_next f i = rw add-one

-- equal at each number, equal in sum
pub sum_same : (f g : ℕ → ℕ) (n : ℕ) → ((i : ℕ) → i < n → f i ≡ g i) → sum f n ≡ sum g n
unfolding sum
sum_same f g zero h = refl
sum_same f g (suc n) h = omega (arith, sum_same f g n (λ i l. h i (omega arith)), h n (omega arith))

-- each number within a bound, the sum within so many of it
pub sum_le : (f : ℕ → ℕ) (b n : ℕ) → ((i : ℕ) → i < n → f i ≤ b) → sum f n ≤ b * n
unfolding sum
sum_le f b zero h = omega arith
sum_le f b (suc n) h = omega (arith, sum_le f b n (λ i l. h i (omega arith)), h n (omega arith))

-- one number is a part of the sum
pub sum_part : (f : ℕ → ℕ) (i n : ℕ) → i < n → f i ≤ sum f n
unfolding sum
sum_part f i zero h = absurd (omega arith)
sum_part f i (suc n) h =
    let rest = sum_part f i n in
    ⊎_elim (λ (e : i ≡ n). rw e (omega arith)) (λ (m : i < n). omega (arith, rest m)) (eq-or-lt_of_le (le_of_suc-le-suc h))

-- two rules that differ at one number alone: the sums differ by what they give there
pub sum_one : (f g : ℕ → ℕ) (i n : ℕ) → i < n → ((j : ℕ) → (j ≡ i → ⊥) → f j ≡ g j) → sum f n + g i ≡ sum g n + f i
unfolding sum
sum_one f g i zero h d = absurd (omega arith)
sum_one f g i (suc n) h d =
    let rest = sum_one f g i n in
    ⊎_elim
    (λ (e : i ≡ n). rw e (omega (arith, sum_same f g n (λ j l. d j (omega arith)))))
    (λ (m : i < n). omega (arith, rest m d, d n (omega arith)))
    (eq-or-lt_of_le (le_of_suc-le-suc h))

-- more numbers, no less in sum
pub sum_mono : (f : ℕ → ℕ) (m n : ℕ) → m ≤ n → sum f m ≤ sum f n
unfolding sum
sum_mono f m zero h = let e : m ≡ 0 = omega arith in rw e (omega arith)
sum_mono f m (suc n) h =
    let rest = sum_mono f m n in
    ⊎_elim (λ (e : m ≡ suc n). rw e (omega arith)) (λ (l : m < suc n). omega (arith, rest (le_of_suc-le-suc l))) (eq-or-lt_of_le h)
