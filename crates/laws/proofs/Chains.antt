-- Lists one after the other: how long they are, and what stands where.
-- Assumes nothing.
use mathlib.Core.Path.{◌≡◌, refl, ◌∙◌}
use mathlib.Core.List.{List, [], ◌++◌}
use mathlib.Core.Logic.{⊎_elim}
use Prim.Native.Nat.{ℕ, zero, suc, ◌+◌, ◌*◌, ◌≤◌, ◌<◌}
use native.Mathlib.Nat.{eq-or-lt_of_le, le_of_suc-le-suc}
use native.Mathlib.Omega.{arith}
use lib.ListN.{length, get_or, length-append, get_or-append}
use Rattle.laws.specs.Sum.{sum}
use Rattle.laws.proofs.Sum.{sum_mono}
use Rattle.laws.proofs.Patches.{get_d_past}

-- the lists below n, one after the other
unfoldable pub chain : (ℕ → List ℕ) → ℕ → List ℕ
chain p zero = []
chain p (suc n) = chain p n ++ p n

-- a sum of equals
pub sum_equal : (w n : ℕ) → sum (λ i. w) n ≡ w * n
unfolding sum
sum_equal w zero = omega arith
sum_equal w (suc n) = omega (arith, sum_equal w n)

-- the numbers below a place are a part of those below a later one
pub sum_below : (f : ℕ → ℕ) (i n : ℕ) → i < n → sum f i + f i ≤ sum f n
unfolding sum
sum_below f i n h = sum_mono f (suc i) n h

module _ (p : ℕ → List ℕ) (size : ℕ → ℕ) (sized : (i : ℕ) → length (p i) ≡ size i) where
  pub chain_length : (n : ℕ) → length (chain p n) ≡ sum size n
  unfolding chain sum
  chain_length zero = refl
  chain_length (suc n) = simp (length-append, chain_length n, sized n)

  -- what stands at k in the list i
  pub chain_at : (n i k : ℕ) → i < n → k < size i → get_or (chain p n) (sum size i + k) 0 ≡ get_or (p i) k 0
  unfolding chain
  chain_at zero i k h l = absurd (omega arith)
  chain_at (suc n) i k h l =
      let before = chain_at n i k in
      ⊎_elim
      (λ (e : i ≡ n). rw e (get_d_past (chain p n) (p n) (sum size n) k (chain_length n)))
      (λ (m : i < n). get_or-append (chain p n) (p n) 0 (sum size i + k) (omega (arith, chain_length n, sum_below size i n m)) ∙ before m l)
      (eq-or-lt_of_le (le_of_suc-le-suc h))
