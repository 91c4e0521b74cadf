-- A book of zeros: its state is the empty one.
-- Assumes nothing.
use mathlib.Core.Path.{◌≡◌, refl, ◌∙◌, fun_ext}
use mathlib.Core.List.{List}
use Prim.Native.Nat.{ℕ, zero, suc, ◌+◌}
use native.Mathlib.Decide.{dec_lt}
use native.Mathlib.Omega.{arith}
use lib.ListN.{get_or, replicate}
use Rattle.laws.specs.Numbers.{number_at}
use Rattle.book.specs.Layout.{rows_of, width_of, place_of}
use Rattle.book.specs.State.{state}
use Rattle.book.proofs.Cells.{state_at, state_none}
use Rattle.rules.specs.SetUp.{empty_state}

-- its numbers
abbrev zeros : ℕ → List ℕ
zeros n = replicate n 0

zeros_at : (n i : ℕ) → get_or (zeros n) i 0 ≡ 0
zeros_at zero i = refl
zeros_at (suc n) zero = refl
zeros_at (suc n) (suc i) = zeros_at n i

number_zero : (n at w : ℕ) → number_at (zeros n) at w ≡ 0
unfolding number_at
number_zero n at zero = refl
number_zero n at (suc w) = rw (number_zero n at w, zeros_at n (at + w))

each_zero : (n f i : ℕ) → state (zeros n) f i ≡ 0
each_zero n f i =
    elim (dec_lt i (rows_of f)) [
      | yes l ↦ state_at (zeros n) f i l ∙ number_zero n (place_of f i) (width_of f)
      | no l ↦ state_none (zeros n) f i (omega arith)
    ]

pub zero_state : (n : ℕ) → state (zeros n) ≡ empty_state
zero_state n = fun_ext (λ f. fun_ext (λ i. each_zero n f i))
