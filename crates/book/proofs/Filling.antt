-- An array that is made by a closure from each index is the list filled by the rule that the closure computes.
-- Assumes nothing.
use mathlib.Core.Path.{◌≡◌, refl, sym, ◌∙◌}
use mathlib.Core.List.{List}
use Prim.Native.Nat.{ℕ, zero, suc, ◌+◌, ◌≤◌, ◌<◌}
use native.Mathlib.Decide.{ℕ_discrete}
use native.Mathlib.Nat.{le_refl}
use native.Mathlib.Omega.{arith}
use lib.ListN.{get_or}
use lib.Seq.{ext_get_or}
use denote.Param.Members.{Mut, Called}
use Rattle.std.specs.Array.{IsFromFnResult, IsFromFnResultFrom}
use Rattle.laws.specs.Filled.{filled}
use Rattle.laws.proofs.Filled.{filled_length, filled_at}

module _ {F : Type 0} (g : Mut F (ℕ × Unit {0}) ℕ) (s : F) (f : ℕ → ℕ) (m : ℕ) (call : (i y : ℕ) (q : F) → i < m → Called g s (i, tt) y q → (q ≡ s) × (y ≡ f i)) where
  each : (p : F) → p ≡ s → (ys : List ℕ) (i n : ℕ) → i + n ≤ m → IsFromFnResultFrom g p ys i n → (j : ℕ) → i ≤ j → j < i + n → get_or ys j 0 ≡ f j
  each p same ys i zero h r j a b = absurd (omega arith)
  each p same ys i (suc n) h (q, y, here, called, rest) j a b =
      let c = call i y q (omega arith) (rw same at called) in
      let later = each q c.0 ys (i + 1) n (omega arith) rest in
      elim (ℕ_discrete j i) [ yes e ↦ rw e (here.1 0 ∙ c.1) | no k ↦ later j (omega arith) (omega arith) ]

  -- the closure leaves its captures, and computes the rule
  pub filled_from_fn : (ys : List ℕ) → IsFromFnResult g s ys m → ys ≡ filled f m m
  filled_from_fn ys made =
      ext_get_or 0 ys (filled f m m) (made.long ∙ sym (filled_length f m m))
      (λ j l. each s refl ys 0 m (omega arith) made.each j (omega arith) (omega (arith, made.long)) ∙ sym (filled_at f m m j (le_refl m) (omega (arith, made.long))))
