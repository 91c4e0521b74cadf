-- Numbers by their marks, and what each way out of the tests of a number shows.
-- Assumes nothing.
use mathlib.Core.Path.{◌≡◌, sym, ◌∙◌}
use mathlib.Core.Bool.{Bool, true, false, not, or-true}
use mathlib.Core.List.{List}
use Prim.Native.Nat.{ℕ, ◌+◌, ◌-◌, ◌%◌, ◌<◌}
use native.Mathlib.Nat.{sub-zero}
use native.Mathlib.Decide.{ℕ_discrete}
use native.Mathlib.Omega.{arith}
use lib.Dec.{eqb}
use lib.ListN.{length, get_or, set, length-set, replicate, length-replicate}
use lib.Seq.{get_or-set_same, get_or-set_other}
use borrow.Author.Tests.{ne_eqb}
use Rattle.laws.specs.Search.{all}
use Rattle.laws.proofs.Cases.{clash}
use Rattle.book.specs.Layout.{numbers}
use Rattle.book.specs.State.{State}
use Rattle.rules.specs.ByRow.{differs, distinct_number}
use Rattle.facts.proofs.Truth.{all_of}
use Rattle.sound_numbers.specs.Numbers.{Marked}

-- distinct numbers
module _ (s : State) (i : ℕ) {n : ℕ} (nq : n ≡ s numbers i) where
  pub numbers_of_lem : (n ≡ 0 → ⊥) → all (differs s i) (i - 0) 0 ≡ distinct_number s i
  numbers_of_lem h =
      let mark : eqb (s numbers i) 0 ≡ false = ne_eqb (s numbers i) 0 (λ m. h (nq ∙ m)) in
      rw (mark, sub-zero)

-- a number at whose slot there is no mark differs from all before; and one more mark
module _ (s : State) (marks : List Bool) (i : ℕ) (m : Marked s marks i) {n : ℕ} (nq : n ≡ s numbers i) where
  module _ (used : n ≡ 0 → ⊥) where
    other : get_or marks (n % 4096) false ≡ false → (j : ℕ) → j < i → differs s i j ≡ true
    other z j l = rw (ne_eqb (s numbers i) (s numbers j) (λ e.
        let same : n ≡ s numbers j = nq ∙ e in
        let mark : get_or marks (n % 4096) false ≡ true = rw same (m.each j l (λ y. used (same ∙ y))) in
        clash {A = ⊥} mark z))

    pub not_marked : {before : Bool} → before ≡ get_or marks (n % 4096) false → before ≡ false → not before ≡ distinct_number s i
    not_marked q f = rw f (sym (rw (all_of (differs s i) i 0 (λ j a l. other (sym q ∙ f) j (omega arith)), or-true)))

  pub marked_next : {after : Bool} → after ≡ true → Marked s (set marks (n % 4096) after) (i + 1)
  marked_next a =
      let inside : n % 4096 < length marks = omega (arith, m.long) in
      record {
        long = simp length-set m.long;
        each = λ j l u. elim (ℕ_discrete (s numbers j % 4096) (n % 4096)) [
          | yes q ↦ rw (a, q, get_or-set_same marks (n % 4096) true false inside)
          | no q ↦ rw a (get_or-set_other marks (n % 4096) (s numbers j % 4096) true false q ∙ m.each j (before j l q) u)
        ];
      }
    where
      before : (j : ℕ) → j < i + 1 → (s numbers j % 4096 ≡ n % 4096 → ⊥) → j < i
      before j l q = elim (ℕ_discrete j i) [
        | yes e ↦ absurd (q (rw (e, nq)))
        | no e ↦ omega arith
      ]

pub marked_none : (s : State) → Marked s (replicate 4096 false) 0
marked_none s = record { long = length-replicate {A = Bool} 4096 false; each = λ j l u. absurd (omega arith) }
