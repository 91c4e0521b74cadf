-- What each return of the search for the exposure with a key shows.
-- Assumes nothing.
use mathlib.Core.Path.{◌≡◌, sym, ◌∙◌}
use mathlib.Core.Bool.{Bool, true, false}
use mathlib.Core.Logic.{⊎_elim}
use Prim.Native.Nat.{ℕ, zero, suc, ◌+◌, ◌≤◌, ◌<◌}
use native.Mathlib.Decide.{ℕ_discrete}
use native.Mathlib.Omega.{arith}
use lib.Dec.{ltb}
use borrow.Author.Tests.{lt-ltb}
use Rattle.laws.specs.Search.{least}
use Rattle.laws.proofs.Cases.{either, clash}
use Rattle.laws.proofs.Least.{least_hit, least_miss}
use Rattle.book.specs.State.{State}
use Rattle.exposure_search.specs.Keys.{is_at, exposure_of}
use Rattle.exposure_search.specs.declared.ExposureKey.{ExposureKey}

-- a test that holds at a number finds one that is no higher
least_found : (t : ℕ → Bool) (n i j : ℕ) → t j ≡ true → i ≤ j → j < i + n → least t n i ≤ j
least_found t zero i j h a b = absurd (omega arith)
least_found t (suc n) i j h a b =
    ⊎_elim
    (λ p. omega (arith, least_hit t n i p))
    (λ p. elim (ℕ_discrete i j) [
      | yes q ↦ absurd (clash_at q p)
      | no q ↦ omega (arith, least_miss t n i p, least_found t n (suc i) j h (omega arith) (omega arith))
    ])
    (either (t i))
  where
    clash_at : i ≡ j → t i ≡ false → ⊥
    clash_at q p = clash {A = ⊥} h (rw (← q) p)

pub by_hint : (s : State) (key : ExposureKey) {e : ℕ} {b : Bool} → e < 64 → b ≡ is_at s key e → b ≡ true → true ≡ ltb (exposure_of s key) 64
by_hint s key {e} l q h = sym (lt-ltb (exposure_of s key) 64 (omega (arith, least_found (is_at s key) 64 0 e (sym q ∙ h) (omega arith) (omega arith))))
