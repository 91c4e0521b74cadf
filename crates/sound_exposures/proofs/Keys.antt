-- The keys of the exposures by their marks.
-- Assumes nothing.
use mathlib.Core.Path.{◌≡◌, refl, sym, ◌∙◌}
use mathlib.Core.Bool.{Bool, true, false, not, ◌&&◌, or-true}
use mathlib.Core.List.{List, [], ◌∷◌}
use mathlib.Core.Logic.{⊎_elim}
use Prim.Native.Nat.{ℕ, ◌+◌, ◌<◌}
use native.Mathlib.Decide.{ℕ_discrete}
use native.Mathlib.Omega.{arith}
use lib.Dec.{eqb}
use lib.ListN.{length, get_or, set, length-set, replicate, length-replicate}
use lib.Seq.{get_or-set_same, get_or-set_other}
use borrow.Author.Tests.{eqb-true, ne_eqb}
use Rattle.laws.proofs.Cases.{either, clash}
use Rattle.book.specs.Layout.{in_use, exposure_givers, exposure_takers, exposure_baskets, exposure_closings, key_tables}
use Rattle.book.specs.State.{State, rows_alike}
use Rattle.rules.specs.ByRow.{same, other_key, distinct_key}
use Rattle.facts.proofs.Truth.{split, all_of}
use Rattle.exposure_search.specs.Slots.{slot_of}
use Rattle.sound_exposures.specs.Keys.{KeysMarked}

-- equal keys have one slot
alike_slot : (s : State) (e d : ℕ) → rows_alike s key_tables e d ≡ true → slot_of s e ≡ slot_of s d
alike_slot s e d h =
    let t = split (same s exposure_givers e d ∷ same s exposure_takers e d ∷ same s exposure_baskets e d ∷ same s exposure_closings e d ∷ []) h in
    let at : (f : ℕ) → same s f e d ≡ true → s f e ≡ s f d = λ f. eqb-true (s f e) (s f d) in
    rw (at exposure_givers t.0, at exposure_takers t.1.0, at exposure_baskets t.1.1.0, at exposure_closings t.1.1.1)

fails : (a b : Bool) → b ≡ false → not (a && b) ≡ true
fails true b h = rw h
fails false b h = refl

-- a key at whose slot there is no mark differs from all before; and one more mark
module _ (s : State) (marks : List Bool) (e : ℕ) (m : KeysMarked s marks e) {p : ℕ} (pq : p ≡ slot_of s e) where
  other : get_or marks p false ≡ false → (d : ℕ) → d < e → other_key s e d ≡ true
  other z d l = elim (ℕ_discrete (s in_use d) 1) [
    | yes u ↦ ⊎_elim
        (λ h.
        let mark : get_or marks p false ≡ true = rw (pq ∙ alike_slot s e d h) (m.each d l u) in
        clash {A = other_key s e d ≡ true} mark z)
        (λ h. fails (eqb (s in_use d) 1) (rows_alike s key_tables e d) h)
        (either (rows_alike s key_tables e d))
    | no n ↦ rw (ne_eqb (s in_use d) 1 n)
  ]

  pub key_not_marked : {before : Bool} → before ≡ get_or marks p false → before ≡ false → not before ≡ distinct_key s e
  key_not_marked q f = rw f (sym (rw (all_of (other_key s e) e 0 (λ d a l. other (sym q ∙ f) d (omega arith)), or-true)))

  pub keys_marked_next : p < 1024 → {after : Bool} → after ≡ true → KeysMarked s (set marks p after) (e + 1)
  keys_marked_next b a =
      let inside : p < length marks = omega (arith, m.long) in
      record {
        long = simp length-set m.long;
        each = λ d l u. elim (ℕ_discrete (slot_of s d) p) [
          | yes q ↦ rw (a, q, get_or-set_same marks p true false inside)
          | no q ↦ rw a (get_or-set_other marks p (slot_of s d) true false q ∙ m.each d (before d l q) u)
        ];
      }
    where
      before : (d : ℕ) → d < e + 1 → (slot_of s d ≡ p → ⊥) → d < e
      before d l q = elim (ℕ_discrete d e) [
        | yes h ↦ absurd (q (rw h (sym pq)))
        | no h ↦ omega arith
      ]

pub keys_marked_none : (s : State) → KeysMarked s (replicate 1024 false) 0
keys_marked_none s = record { long = length-replicate {A = Bool} 1024 false; each = λ d l u. absurd (omega arith) }
