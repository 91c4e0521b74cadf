-- Kind 8, cancel: marks on request rows, the same end on both rows of a pair. It keeps all.
-- Assumes nothing.
use mathlib.Core.Path.{◌≡◌, refl, sym, ◌∙◌}
use mathlib.Core.Bool.{Bool, true, false, not, ◌||◌}
use mathlib.Core.List.{List}
use mathlib.Core.Logic.{◌⊎◌, inl, inr, ⊎_elim}
use Prim.Native.Nat.{ℕ, ◌+◌, ◌^◌, ◌≤◌, ◌<◌}
use native.Mathlib.Decide.{ℕ_discrete}
use native.Mathlib.Omega.{arith}
use lib.Dec.{eqb}
use borrow.Author.Tests.{eqb-true, eqb-false, eq-eqb, ne_eqb, not-true, not-false}
use Rattle.laws.proofs.Cases.{either, clash}
use Rattle.book.specs.Layout.{next_number, numbers, partners, cancels, ends, rows_of, width_of}
use Rattle.book.specs.State.{State, put}
use Rattle.book.specs.Fits.{Fits}
use Rattle.book.proofs.Images.{put_same, put_other, put_apart, put_cases, put_fits}
use Rattle.book.proofs.Places.{row_of}
use Rattle.records.specs.Writing.{are_legal}
use Rattle.rules.specs.Codes.{cancel_rules}
use Rattle.rules.specs.Outcome.{lowest, silent}
use Rattle.rules.specs.Fields.{field}
use Rattle.rules.specs.Requests.{is_used, is_paired, partner_of}
use Rattle.rules.specs.Requesting.{own_request, pair_ends, cancelled}
use Rattle.rules.specs.ByRow.{sound_row}
use Rattle.facts.proofs.Keeps.{Keeps}
use Rattle.facts.specs.Good.{Good}
use Rattle.facts.proofs.Rows.{Pair, head_facts, used_fields, unused_blank_lem}
use Rattle.facts.proofs.Rules.{none_applies}
use Rattle.request_laws.proofs.Covering.{Covers, is_touched, tables_differ, distinct_facts, rows_cover, rows_keep}
use Rattle.request_laws.proofs.Finding.{own_used}
use Rattle.request_laws.proofs.Staying.{is_fixed, marked_row, blank_row, pair_of, partner_paired}

-- the two marks of a request
abbrev is_mark : ℕ → Bool
is_mark f = eqb f cancels || eqb f ends

-- a table that a test takes is none of them, where it takes neither
no_mark : (test : ℕ → Bool) → test cancels ≡ false → test ends ≡ false → (f : ℕ) → test f ≡ true → is_mark f ≡ false
no_mark test p q f h = rw (ne_eqb f cancels (tables_differ test f cancels h p), ne_eqb f ends (tables_differ test f ends h q))

-- the state t is s with marks set on used rows
record Marked (s t : State) : Type 0 where
  apart : (f i : ℕ) → is_mark f ≡ false → t f i ≡ s f i
  marks : (f i : ℕ) → (t f i ≡ s f i) ⊎ ((is_used s i ≡ true) × (t f i ≡ 1))
  fits : Fits t

marked_more : {s t : State} (f i : ℕ) → is_mark f ≡ true → i < rows_of f → 1 < 256 ^ width_of f → is_used s i ≡ true → Marked s t → Marked s (put t f i 1)
marked_more {s} {t} f i h row small u m = record {
  apart = λ g j k. put_apart t f i 1 g j (λ e. tables_differ is_mark f g h k (sym e)) ∙ m.apart g j k;
  marks = λ g j. put_cases t f i 1 (λ (x : ℕ). (x ≡ s g j) ⊎ ((is_used s j ≡ true) × (x ≡ 1))) g j (λ e k. inr (rw k u, refl)) (λ n. m.marks g j);
  fits = put_fits t f i 1 m.fits (row_of f i row) row small;
}

-- such a state is sound where the rows of each pair end together
module _ {s t : State} (good : Good s) (m : Marked s t)
    (together : (i : ℕ) → i < 256 → is_used s i ≡ true → is_paired s i ≡ true → t ends i ≡ t ends (partner_of s i)) where
  fixed : (f i : ℕ) → is_fixed f ≡ true → t f i ≡ s f i
  fixed f i h = m.apart f i (no_mark is_fixed refl refl f h)

  apart : (f i : ℕ) → is_touched f ≡ false → t f i ≡ s f i
  apart f i h = m.apart f i (no_mark (λ g. not (is_touched g)) refl refl f (rw h))

  next : t next_number 0 ≡ s next_number 0
  next = m.apart next_number 0 refl

  covers : Covers s t
  covers = rows_cover apart (omega (arith, next))

  mark_le : (f i : ℕ) → s f i ≤ 1 → t f i ≤ 1
  mark_le f i l = ⊎_elim (λ e. omega arith) (λ e. omega (arith, e.1)) (m.marks f i)

  row_sound : (i : ℕ) → i < 256 → sound_row t i ≡ true
  row_sound i l =
      ⊎_elim
      (λ u.
      let fields = used_fields s i (good.facts.row i l) u in
      marked_row covers good.facts i (λ f h. fixed f i h) l u (mark_le cancels i fields.cancel) (mark_le ends i fields.end)
      (λ p. (λ f h. fixed f (partner_of s i) h, together i l u p)))
      (λ u. blank_row covers good.facts i l (λ f h. ⊎_elim (λ e. e) (λ e. clash e.0 u) (m.marks f i)) u)
      (either (is_used s i))

  marked_keeps : Keeps s (silent t)
  marked_keeps =
      let at : (i : ℕ) → t numbers i ≡ s numbers i = λ i. m.apart numbers i refl in
      rows_keep apart (omega (arith, next)) good (omega (arith, next, (head_facts s good.facts.head).next_high)) row_sound
      (λ i j k l e. at i ∙ distinct_facts s good.facts.number i j k l (sym (at i) ∙ e ∙ at j)) m.fits 0 0 0

-- the ways of a cancel
module _ (s : State) (good : Good s) (i : ℕ) (l : i < 256) (u : is_used s i ≡ true) where
  unmarked : Marked s s
  unmarked = record { apart = λ f i h. refl; marks = λ f i. inl refl; fits = good.fits }

  ended : is_paired s i ≡ false → Keeps s (silent (put s ends i 1))
  ended p =
      let t = put s ends i 1 in
      let none : s partners i ≡ 0 = eqb-true (s partners i) 0 (not-false (eqb (s partners i) 0) p) in
      let together : (j : ℕ) → j < 256 → is_used s j ≡ true → is_paired s j ≡ true → t ends j ≡ t ends (partner_of s j) = λ j k v q.
      put_other s ends i 1 j (λ e. clash q (rw e p))
      ∙ (pair_of s good.facts j k v q).end
      ∙ sym (put_other s ends i 1 (partner_of s j) (λ e. partner_paired s good.facts j k v q (rw e none))) in
      marked_keeps good (marked_more ends i refl l (omega arith) u unmarked) together

  note : Marked s (put s cancels i 1)
  note = marked_more cancels i refl l (omega arith) u unmarked

  noted : Keeps s (silent (put s cancels i 1))
  noted = marked_keeps good note (λ j k v q. (pair_of s good.facts j k v q).end)

  -- the row i and its partner j end
  module _ (j : ℕ) (paired : s partners i ≡ j + 1) (pair : Pair s i j) where
    abbrev ending : State
    ending = put (put s cancels i 1) ends i 1

    abbrev both : State
    both = put ending ends j 1

    partner_used : is_used s j ≡ true
    partner_used =
        ⊎_elim
        (λ v. v)
        (λ v. absurd (omega (arith, pair.named, unused_blank_lem s j (good.facts.row j pair.partner_below) v partners (omega arith) (omega arith))))
        (either (is_used s j))

    -- the partner's end, the row's own, and those of all others
    partner_ends : both ends j ≡ 1
    partner_ends = put_same ending ends j 1

    own_ends : both ends i ≡ 1
    own_ends =
        elim (ℕ_discrete i j) [
          | yes e ↦ rw (eq-eqb i j e)
          | no e ↦ put_other ending ends j 1 i e ∙ put_same (put s cancels i 1) ends i 1
        ]

    others_stay : (k : ℕ) → (k ≡ i → ⊥) → (k ≡ j → ⊥) → both ends k ≡ s ends k
    others_stay k d e = put_other ending ends j 1 k e ∙ put_other (put s cancels i 1) ends i 1 k d

    together : (k : ℕ) → k < 256 → is_used s k ≡ true → is_paired s k ≡ true → both ends k ≡ both ends (partner_of s k)
    together k m v q =
        let other = pair_of s good.facts k m v q in
        elim (ℕ_discrete k i) [
          | yes e ↦
              let mate : partner_of s k ≡ j = rw e (omega arith) in
              rw (mate, e) (own_ends ∙ sym partner_ends)
          | no d ↦
              elim (ℕ_discrete k j) [
                | yes e ↦
                    let mate : partner_of s k ≡ i = rw e (omega (arith, pair.named)) in
                    rw (mate, e) (partner_ends ∙ sym own_ends)
                | no e ↦
                    others_stay k d e
                    ∙ other.end
                    ∙ sym (others_stay (partner_of s k)
                    (λ f. e (let z : s partners i ≡ k + 1 = rw f at other.named in omega arith))
                    (λ f. d (let z : s partners j ≡ k + 1 = rw f at other.named in omega (arith, pair.named))))
              ]
        ]

    pair_ended : Keeps s (silent both)
    pair_ended = marked_keeps good (marked_more ends j refl pair.partner_below (omega arith) partner_used (marked_more ends i refl l (omega arith) u note)) together

-- the way that a cancel goes
pub keeps_cancel : (s : State) (r : List ℕ) → Good s → are_legal 8 r ≡ true → lowest (cancel_rules s r) ≡ 0 → Keeps s (cancelled s r)
unfolding cancel_rules cancelled
keeps_cancel s r good legal accepted =
    let i = own_request s (field r 0) (field r 1) in
    let none = none_applies (cancel_rules s r) refl accepted in
    let own = own_used s (field r 0) (field r 1) (eqb-false i 256 none.1.0) in
    let l = own.0 in
    let u = own.1 in
    ⊎_elim
    (λ (p : is_paired s i ≡ true). ⊎_elim
    (λ (q : pair_ends s i ≡ true).
    let named : s partners i ≡ partner_of s i + 1 = omega (arith, eqb-false (s partners i) 0 (not-true (eqb (s partners i) 0) p)) in
    rw (p, q) (pair_ended s good i l u (partner_of s i) named (pair_of s good.facts i l u p)))
    (λ (q : pair_ends s i ≡ false). rw (p, q) (noted s good i l u))
    (either (pair_ends s i)))
    (λ (p : is_paired s i ≡ false). rw p (ended s good i l u p))
    (either (is_paired s i))
