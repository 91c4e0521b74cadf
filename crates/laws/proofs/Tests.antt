-- A chain of tests as code takes it, each on a number that was read: one that fails decides, one that passes leaves the rest. And a loop
-- that looks for the first number that passes a test. `search` finds its way by these.
-- Assumes nothing.
use mathlib.Core.Path.{◌≡◌, sym, ◌∙◌}
use mathlib.Core.Bool.{Bool, true, false, ◌&&◌, ◌||◌}
use Prim.Native.Nat.{ℕ, ◌+◌, ◌-◌, ◌≤◌, ◌<◌}
use lib.Dec.{eqb}
use borrow.Author.Tests.{eq-eqb, ne_eqb}
use Rattle.laws.specs.Search.{least}
use Rattle.laws.proofs.Least.{least_here, least_on, least_end}

-- a number x that was read, against y
module _ (x y : ℕ) (rest : Bool) {read : ℕ} (q : read ≡ x) where
  pub fails : (read ≡ y → ⊥) → false ≡ (eqb x y && rest)
  fails h = rw (← q, ne_eqb read y h)

  pub passes : {b : Bool} → read ≡ y → b ≡ rest → b ≡ (eqb x y && rest)
  passes h e = rw (← q, eq-eqb read y h) e

  pub holds : read ≡ y → true ≡ (eqb x y || rest)
  holds h = rw (← q, eq-eqb read y h)

  pub else : {b : Bool} → (read ≡ y → ⊥) → b ≡ rest → b ≡ (eqb x y || rest)
  else h e = rw (← q, ne_eqb read y h) e

-- the last of a chain
pub last : (x y : ℕ) {read : ℕ} → read ≡ x → eqb read y ≡ eqb x y
last x y q = rw q

-- A loop that tests i up to n by one and leaves at the first hit: what is ahead decides, and each way on.
pub record Ahead (t : ℕ → Bool) (n i whole : ℕ) : Type 0 where
  pub decides : least t (n - i) i ≡ whole

module _ {t : ℕ → Bool} {n i whole : ℕ} (a : Ahead t n i whole) where
  pub found : {b : Bool} → i < n → b ≡ t i → b ≡ true → i ≡ whole
  found l e h = sym (least_here t n i l (sym e ∙ h)) ∙ a.decides

  pub onward : {b : Bool} → i < n → b ≡ t i → b ≡ false → Ahead t n (i + 1) whole
  onward l e h = record { decides = sym (least_on t n i l (sym e ∙ h)) ∙ a.decides }

  pub nowhere : n ≤ i → i ≡ whole
  nowhere g = sym (least_end t n i g) ∙ a.decides
