-- Exposures by the marks of the rows that belong to them.
-- Assumes nothing.
use mathlib.Core.Path.{◌≡◌, sym, ap, ◌∙◌}
use mathlib.Core.Bool.{Bool, true, false, ◌&&◌}
use mathlib.Core.List.{List, [], ◌∷◌}
use mathlib.Core.Logic.{⊎_elim}
use Prim.Native.Nat.{ℕ, ◌+◌, ◌≤◌, ◌<◌}
use native.Mathlib.Decide.{ℕ_discrete}
use native.Mathlib.Omega.{arith}
use lib.Dec.{eqb}
use lib.ListN.{length, get_or, set, length-set, replicate, length-replicate, get_or-replicate}
use lib.Seq.{get_or-set_same, get_or-set_other}
use borrow.Author.Tests.{eqb-true, ne_eqb}
use Rattle.std.specs.Prelude.{Option, Some, None}
use Rattle.laws.proofs.Cases.{either, clash}
use Rattle.book.specs.Layout.{numbers, request_kinds, givers, takers, baskets_or_exposures, closings, in_use, exposure_givers, exposure_takers, exposure_baskets, exposure_closings, exposure_amounts}
use Rattle.book.specs.State.{State}
use Rattle.rules.specs.DayChange.{belongs, is_idle, exposure_freed, on_each}
use Rattle.rules.specs.Requests.{is_used, is_fop, is_paired, has_key}
use Rattle.facts.proofs.Truth.{split, all_of}
use Rattle.exposure_search.specs.Keys.{key_slot}
use Rattle.exposure_search.specs.Slots.{slot_of}
use Rattle.day_laws.proofs.Each.{each_keeps}
use Rattle.day_exposures.specs.Parts.{is_not_of, RowSlot, Marked, MarkedFor}
use Rattle.day_exposures.proofs.Returns.{no_row, by_name, by_rows}

-- an exposure has the key of a FOP row
abbrev has_key_of : State → ℕ → ℕ → Bool
has_key_of s e i = has_key s (s givers i) (s takers i) (s baskets_or_exposures i) (s closings i) e

-- the slot of a row
module _ (s : State) (i : ℕ) {n : ℕ} (nq : n ≡ s numbers i) where
  pub unused_slot : n ≡ 0 → RowSlot s i None
  unused_slot z = record { below = tt; same = λ e l h. clash h (sym (no_row s e i nq z)) }

  module _ (used : n ≡ 0 → ⊥) {k o : ℕ} (kq : k ≡ s request_kinds i) (oq : o ≡ s baskets_or_exposures i) where
    named : k ≡ 7 → (e : ℕ) → belongs s e i ≡ true → o ≡ e
    named z e h = eqb-true o e (by_name s e i nq used kq z oq ∙ h)

    pub unnamed_slot : k ≡ 7 → 64 ≤ o → RowSlot s i None
    unnamed_slot z l = record { below = tt; same = λ e m h. absurd (omega (arith, named z e h)) }

    pub named_slot : {r : ℕ} → k ≡ 7 → (r ≡ slot_of s o) × (r < 1024) → RowSlot s i (Some r)
    named_slot z q = record { below = q.1; same = λ e m h. ap Some (q.0 ∙ ap (slot_of s) (named z e h)) }

    fop_key : (k ≡ 7 → ⊥) → (e : ℕ) → belongs s e i ≡ true → has_key_of s e i ≡ true
    fop_key m e h =
        let f : (is_used s i && (is_fop s i && (is_paired s i && has_key_of s e i))) ≡ true = rw (ne_eqb (s request_kinds i) 7 (λ z. m (kq ∙ z))) at h in
        (split (is_used s i ∷ is_fop s i ∷ is_paired s i ∷ has_key_of s e i ∷ []) f).1.1.1

    pub fop_slot : {r g t c : ℕ} → (k ≡ 7 → ⊥) → g ≡ s givers i → t ≡ s takers i → c ≡ s closings i → (r ≡ key_slot g t o c) × (r < 1024) → RowSlot s i (Some r)
    fop_slot {r} m gq tq cq q = record { below = q.1; same = λ e l h. ap Some (slot e h) }
      where
        slot : (e : ℕ) → belongs s e i ≡ true → r ≡ slot_of s e
        slot e h =
            let t = split (eqb (s in_use e) 1 ∷ eqb (s exposure_givers e) (s givers i) ∷ eqb (s exposure_takers e) (s takers i) ∷ eqb (s exposure_baskets e) (s baskets_or_exposures i) ∷ eqb (s exposure_closings e) (s closings i) ∷ []) (fop_key m e h) in
            q.0 ∙ rw (
              gq,
              tq,
              oq,
              cq,
              eqb-true (s exposure_givers e) (s givers i) t.1.0,
              eqb-true (s exposure_takers e) (s takers i) t.1.1.0,
              eqb-true (s exposure_baskets e) (s baskets_or_exposures i) t.1.1.1.0,
              eqb-true (s exposure_closings e) (s closings i) t.1.1.1.1,
            )

-- all marks, none, and those of all rows
pub marked_all : (s : State) (marks : List Bool) → marks ≡ replicate 1024 true → Marked s marks 256
marked_all s marks e = rw e (record { long = length-replicate {A = Bool} 1024 true; each = λ d j l m h. get_or-replicate 1024 (slot_of s d) true false (omega arith) })

pub marked_none : (s : State) → Marked s (replicate 1024 false) 0
marked_none s = record { long = length-replicate {A = Bool} 1024 false; each = λ e j l m h. absurd (omega arith) }

pub marked_end : (s : State) (marks : List Bool) (i : ℕ) → 256 ≤ i → Marked s marks i → Marked s marks 256
marked_end s marks i l m = record { long = m.long; each = λ e j a b h. m.each e j a (omega arith) h }

-- one row more
module _ (s : State) (marks : List Bool) (i : ℕ) (m : Marked s marks i) {r : Option ℕ} (p : RowSlot s i r) where
  pub marked_next : (slot : ℕ) → r ≡ Some slot → Marked s (set marks slot true) (i + 1)
  marked_next slot z =
      let inside : slot < length marks = omega (arith, m.long, rw z at p.below) in
      record {
        long = simp length-set m.long;
        each = λ e j l k h. elim (ℕ_discrete (slot_of s e) slot) [
          | yes q ↦ rw (q, get_or-set_same marks slot true false inside)
          | no q ↦ get_or-set_other marks slot (slot_of s e) true false q ∙ m.each e j l (before e j l k h q) h
        ];
      }
    where
      before : (e j : ℕ) → e < 64 → j < i + 1 → belongs s e j ≡ true → (slot_of s e ≡ slot → ⊥) → j < i
      before e j l k h q = elim (ℕ_discrete j i) [
        | yes d ↦ absurd (q (let f = p.same e l (rw d at h) in cc))
        | no d ↦ omega arith
      ]

  pub marked_same : r ≡ None → Marked s marks (i + 1)
  marked_same z = record { long = m.long; each = λ e j l k h. m.each e j l (before e j l k h) h }
    where
      before : (e j : ℕ) → e < 64 → j < i + 1 → belongs s e j ≡ true → j < i
      before e j l k h = elim (ℕ_discrete j i) [
        | yes d ↦ absurd (let f = p.same e l (rw d at h) in cc)
        | no d ↦ omega arith
      ]

-- an empty exposure at whose slot there is no mark is idle
pub idle_unmarked : (s : State) (marks : List Bool) (e : ℕ) {u a p : ℕ} → u ≡ s in_use e → u ≡ 1 → a ≡ s exposure_amounts e → a ≡ 0 → MarkedFor s marks e → (p ≡ slot_of s e) × (p < 1024) → get_or marks p false ≡ false → true ≡ is_idle s e
idle_unmarked s marks e uq used aq z m pq y = by_rows s e uq used aq z (sym (all_of (is_not_of s e) 256 0 (λ j a l. none j (omega arith))))
  where
    none : (j : ℕ) → j < 256 → is_not_of s e j ≡ true
    none j l = ⊎_elim (λ h. clash (m.mark j l h) (rw pq.0 at y)) (λ h. rw h) (either (belongs s e j))

-- while the exposures below e are freed, e keeps its mark
pub later_marked : (s : State) (marks : List Bool) (e : ℕ) → e < 64 → Marked s marks 256 → MarkedFor (on_each (is_idle s) exposure_freed e s) marks e
later_marked s marks e l m =
    each_keeps (is_idle s) exposure_freed s (λ t. MarkedFor t marks e) e
    (λ t j k p h. record { mark = rw (ne_eqb e j (λ q. omega arith)) h.mark })
    (record { mark = λ j k h. m.each e j l k h })
