-- What each return of the tests of an exposure shows.
-- Assumes nothing.
use mathlib.Core.Path.{◌≡◌, ◌∙◌}
use Prim.Native.Nat.{ℕ, ◌-◌}
use native.Mathlib.Nat.{sub-zero}
use borrow.Author.Tests.{ne_eqb}
use Rattle.laws.specs.Search.{all}
use Rattle.book.specs.Layout.{in_use}
use Rattle.book.specs.State.{State}
use Rattle.rules.specs.ByRow.{other_key, distinct_key}

module _ (s : State) (e : ℕ) {u : ℕ} (q : u ≡ s in_use e) where
  pub keys_of : (u ≡ 0 → ⊥) → all (other_key s e) (e - 0) 0 ≡ distinct_key s e
  keys_of z = rw (ne_eqb (s in_use e) 0 (λ p. z (q ∙ p)), sub-zero)
