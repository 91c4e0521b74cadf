-- Laws of a list filled by a rule.
-- Assumes nothing.
use mathlib.Core.Path.{◌≡◌, refl, sym, ap, ◌∙◌}
use mathlib.Core.Logic.{⊎_elim}
use mathlib.Core.List.{List}
use Prim.Native.Nat.{ℕ, zero, suc, ◌+◌, ◌-◌, ◌≤◌, ◌<◌}
use native.Mathlib.Nat.{eq-or-lt_of_le, le_of_suc-le-suc, le_refl}
use native.Mathlib.Numerals.{add-one}
use native.Mathlib.Omega.{arith}
use lib.ListN.{length, get_or, set, replicate, length-set, length-replicate}
use lib.Seq.{get_or-set_same, get_or-set_other}
use Rattle.laws.specs.Filled.{filled}

module _ (f : ℕ → ℕ) (n : ℕ) where
  pub filled_length : (k : ℕ) → length (filled f n k) ≡ n
  unfolding filled
  filled_length zero = simp length-replicate
  filled_length (suc k) = simp length-set (filled_length k)

  -- below k, what the rule gives
  pub filled_at : (k j : ℕ) → k ≤ n → j < k → get_or (filled f n k) j 0 ≡ f j
  unfolding filled
  filled_at zero j h l = absurd (omega arith)
  filled_at (suc k) j h l =
      let below = filled_at k j in
      let inside : k < length (filled f n k) = omega (arith, filled_length k) in
      ⊎_elim
      (λ (e : j ≡ k). rw (e, get_or-set_same (filled f n k) k (f k) 0 inside))
      (λ (m : j < k). get_or-set_other (filled f n k) k j (f k) 0 (λ e. omega arith) ∙ below (omega arith) m)
      (eq-or-lt_of_le (le_of_suc-le-suc l))

  -- nothing filled yet, and one place more, in the code's j + 1
  pub filled_first : replicate n 0 ≡ filled f n 0
  unfolding filled
  filled_first = refl

  pub filled_next : (j : ℕ) (l : List ℕ) {x : ℕ} → x ≡ f j → l ≡ filled f n j → set l j x ≡ filled f n (j + 1)
  unfolding filled
  filled_next j l e g = rw (add-one, e, g)

-- a rule that gives n numbers from a place on as another gives the first n: where both compute, one `refl` shows it of all
pub rules_along : (h g : ℕ → ℕ) (p n : ℕ) → filled g n n ≡ filled (λ k. h (p + k)) n n → (f : ℕ) → p ≤ f → f < p + n → g (f - p) ≡ h f
rules_along h g p n e f l m =
    let k = f - p in
    let at : p + k ≡ f = omega arith in
    sym (filled_at g n n k (le_refl n) (omega arith))
    ∙ ap (λ (xs : List ℕ). get_or xs k 0) e
    ∙ filled_at (λ k. h (p + k)) n n k (le_refl n) (omega arith)
    ∙ ap h at
