-- The bits of a map: the counts that the processor makes of them.
-- Assumes nothing.
use mathlib.Core.Path.{◌≡◌, refl, sym, ap, ◌∙◌}
use mathlib.Core.Bool.{true, false}
use mathlib.Core.Logic.{◌⊎◌, inl, inr}
use Prim.Native.Nat.{ℕ, zero, suc, ◌+◌, ◌/◌, ◌%◌, ◌^◌, ◌<◌}
use native.Mathlib.Nat.{pow-suc, div-one, zero-add, add-zero}
use native.Mathlib.Numerals.{add-one}
use native.Mathlib.Omega.{arith}
use lib.Count.{ones, ones_step, count_trailing_zeros, under}
use lib.Pow.{shr-shr}
use Rattle.laws.specs.Search.{least, count}
use Rattle.laws.proofs.Least.{least_hit, least_miss, least_none, count_hit, count_miss, count_none}
use Rattle.laws.specs.Bits.{has_bit}

-- a digit is 0 or 1
digit : (m : ℕ) → (m % 2 ≡ 0) ⊎ (m % 2 ≡ 1)
digit m = go (m % 2) refl
  where
    go : (d : ℕ) → m % 2 ≡ d → (m % 2 ≡ 0) ⊎ (m % 2 ≡ 1)
    go zero e = inl e
    go (suc zero) e = inr e
    go (suc (suc d)) e = absurd (omega arith)

module _ (n : ℕ) where
  next : (i : ℕ) → n / 2 ^ i / 2 ≡ n / 2 ^ suc i
  next i = shr-shr n i 1 ∙ ap (λ (k : ℕ). n / 2 ^ k) (add-one i)

  clear : (i : ℕ) → n / 2 ^ i % 2 ≡ 0 → has_bit n i ≡ false
  clear i e = rw e

  set : (i : ℕ) → n / 2 ^ i % 2 ≡ 1 → has_bit n i ≡ true
  set i e = rw e

  ones_from : (k i : ℕ) → n / 2 ^ i < 2 ^ k → ones (n / 2 ^ i) ≡ count (has_bit n) k i
  unfolding ones
  ones_from zero i h = let z : n / 2 ^ i ≡ 0 = omega arith in ap ones z ∙ sym (count_none (has_bit n) i)
  ones_from (suc k) i h =
      let half : n / 2 ^ i / 2 < 2 ^ k = omega (arith, pow-suc 2 k) in
      go (digit (n / 2 ^ i)) (ones_from k (suc i) (rw next at half))
    where
      go : (n / 2 ^ i % 2 ≡ 0) ⊎ (n / 2 ^ i % 2 ≡ 1) → ones (n / 2 ^ suc i) ≡ count (has_bit n) k (suc i) → ones (n / 2 ^ i) ≡ count (has_bit n) (suc k) i
      go (inl e) r = ones_step (n / 2 ^ i) ∙ omega (arith, e, r, ap ones (next i), count_miss (has_bit n) k i (clear i e))
      go (inr e) r = ones_step (n / 2 ^ i) ∙ omega (arith, e, r, ap ones (next i), count_hit (has_bit n) k i (set i e))

  trailing_from : (k i : ℕ) → i + count_trailing_zeros k (n / 2 ^ i) ≡ least (has_bit n) k i
  unfolding count_trailing_zeros
  trailing_from zero i = add-zero i ∙ sym (least_none (has_bit n) i)
  trailing_from (suc k) i = go (digit (n / 2 ^ i)) (trailing_from k (suc i))
    where
      go : (n / 2 ^ i % 2 ≡ 0) ⊎ (n / 2 ^ i % 2 ≡ 1) → suc i + count_trailing_zeros k (n / 2 ^ suc i) ≡ least (has_bit n) k (suc i) → i + under (n / 2 ^ i % 2) (count_trailing_zeros k (n / 2 ^ i / 2)) ≡ least (has_bit n) (suc k) i
      go (inl e) r = rw (e, next) (omega (arith, r, least_miss (has_bit n) k i (clear i e)))
      go (inr e) r = rw e (omega (arith, least_hit (has_bit n) k i (set i e)))

  pub ones_map : n < 2 ^ 64 → ones n ≡ count (has_bit n) 64 0
  ones_map h = let d : n / 1 < 2 ^ 64 = omega arith in rw div-one at (ones_from 64 0 d)

  pub trailing_map : count_trailing_zeros 64 n ≡ least (has_bit n) 64 0
  trailing_map = rw (zero-add, div-one) at (trailing_from 64 0)
