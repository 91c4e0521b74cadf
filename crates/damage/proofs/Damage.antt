-- Laws of the codes 1 and 2: what a book without them is, and that they come before any other code.
-- Assumes nothing.
use mathlib.Core.Path.{◌≡◌, refl, sym, ◌∙◌}
use mathlib.Core.Bool.{Bool, true, false, not, ◌&&◌, cond}
use mathlib.Core.List.{List}
use Prim.Native.Nat.{ℕ}
use native.Mathlib.Omega.{arith}
use lib.Dec.{eqb}
use lib.ListN.{length}
use borrow.Author.Tests.{eqb-true}
use Rattle.book.specs.Layout.{book_length}
use Rattle.book.specs.State.{state}
use Rattle.rules.specs.Sound.{sound}
use Rattle.damage.specs.Damage.{code_after, book_damage}

-- past the tests: the right length, and sound or an opening
pub record Passed (b : List ℕ) (o : Bool) : Type 0 where
  pub long : length b ≡ book_length
  pub no_damage : (not o && not (sound (state b))) ≡ false

by_tests : (l d : Bool) → ◌≡◌ {A = ℕ} (cond (not l) 1 (cond d 2 0)) 0 → (l ≡ true) × (d ≡ false)
by_tests true true z = absurd (let w : ◌≡◌ {A = ℕ} 2 0 = z in omega arith)
by_tests true false z = (refl, refl)
by_tests false d z = absurd (let w : ◌≡◌ {A = ℕ} 1 0 = z in omega arith)

damage_first : (l d : Bool) (n : ℕ) → (◌≡◌ {A = ℕ} (cond (not l) 1 (cond d 2 0)) 0 → ⊥) → ◌≡◌ {A = ℕ} (cond (not l) 1 (cond d 2 n)) (cond (not l) 1 (cond d 2 0))
damage_first true true n h = refl
damage_first true false n h = absurd (h refl)
damage_first false d n h = refl

module _ (b : List ℕ) (o : Bool) where
  pub passes : {c : ℕ} → c ≡ book_damage b o → c ≡ 0 → Passed b o
  passes e z =
      let t = by_tests (eqb (length b) book_length) (not o && not (sound (state b))) (sym e ∙ z) in
      record { long = eqb-true (length b) book_length t.0; no_damage = t.1 }

  -- either is the code, whatever comes next; and without them what comes next is
  pub damaged_code : (n : ℕ) {c : ℕ} → c ≡ book_damage b o → (c ≡ 0 → ⊥) → code_after b o n ≡ c
  damaged_code n e some = damage_first (eqb (length b) book_length) (not o && not (sound (state b))) n (λ z. some (e ∙ z)) ∙ sym e

  pub passed_code : (n : ℕ) → Passed b o → code_after b o n ≡ n
  passed_code n p = rw (p.long, p.no_damage)
