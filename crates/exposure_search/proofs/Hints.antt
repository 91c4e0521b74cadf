-- What putting hints leaves: a used exposure at its key's slot, and the others as they were.
-- Assumes nothing.
use mathlib.Core.Path.{◌≡◌, refl}
use mathlib.Core.List.{List}
use Prim.Native.Nat.{ℕ, ◌+◌}
use native.Mathlib.Numerals.{add-one}
use lib.ListN.{set}
use borrow.Author.Tests.{eq-eqb, ne_eqb}
use Rattle.book.specs.Layout.{in_use}
use Rattle.book.specs.State.{State}
use Rattle.exposure_search.specs.Slots.{slot_of, with_hint, with_hints}

module _ (s : State) (e : ℕ) (hints : List ℕ) {u : ℕ} (uq : u ≡ s in_use e) where
  pub hint_put : {slot : ℕ} → u ≡ 1 → slot ≡ slot_of s e → set hints slot e ≡ with_hint s e hints
  hint_put h q = rw (← uq, eq-eqb u 1 h, q)

  pub hint_left : (u ≡ 1 → ⊥) → hints ≡ with_hint s e hints
  hint_left h = rw (← uq, ne_eqb u 1 h)

-- none yet, and one more
module _ (s : State) (hints : List ℕ) where
  pub none_put : hints ≡ with_hints s hints 0
  unfolding with_hints
  none_put = refl

  pub one_more_put : (e : ℕ) {before after : List ℕ} → before ≡ with_hints s hints e → after ≡ with_hint s e before → after ≡ with_hints s hints (e + 1)
  unfolding with_hints
  one_more_put e q a = rw (add-one, ← q) a
