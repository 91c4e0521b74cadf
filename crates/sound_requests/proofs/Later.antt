-- The later row of a pair whose earlier row is sound: what the two have in common is sound already.
-- Assumes nothing.
use mathlib.Core.Path.{◌≡◌, sym, ◌∙◌}
use mathlib.Core.Bool.{Bool, true, false, not, ◌&&◌, and-false, or-true}
use mathlib.Core.Logic.{◌⊎◌, inl, inr, ⊎_elim}
use Prim.Native.Nat.{ℕ, ◌+◌, ◌*◌, ◌≤◌, ◌<◌}
use native.Mathlib.Decide.{ℕ_discrete, dec_lt}
use native.Mathlib.Omega.{arith}
use lib.Dec.{leb, ltb}
use borrow.Author.Tests.{ne_eqb, lt-leb, le-ltb, leb-true, leb-false, not-false}
use Rattle.laws.specs.Search.{all}
use Rattle.laws.proofs.Cases.{either}
use Rattle.laws.proofs.Least.{all_at}
use Rattle.book.specs.Layout.{next_number, numbers, settlements, closings, partners, cancels}
use Rattle.book.specs.State.{State}
use Rattle.rules.specs.Requests.{is_used, is_paired, is_return, partner_of, exposure_of_fop, open_or_none}
use Rattle.rules.specs.ByRow.{sound_fields, sound_paired, sound_row}
use Rattle.facts.proofs.Rows.{Kind, fop, return, Fields, Pair, Paired, used_fields, used_paired, unused_blank_lem, paired_sound}
use Rattle.sound_requests.specs.Rows.{Passed, Later}

module _ (s : State) (i j : ℕ) (l : Later s i j) where
  used : is_used s i ≡ true
  used = rw (ne_eqb (s numbers i) 0 (λ z. omega (arith, l.used)))

  paired : is_paired s i ≡ true
  paired = rw (ne_eqb (s partners i) 0 (λ z. omega (arith, l.named)))

  partner : partner_of s i ≡ j
  partner = omega (arith, l.named)

  -- it is sound where its fields are and its pair is
  by_parts : sound_row s i ≡ (sound_fields s i && sound_paired s i)
  by_parts = rw (ne_eqb (s numbers i) 0 (λ z. omega (arith, l.used)), ne_eqb (s partners i) 0 (λ z. omega (arith, l.named)))

  pub later_not_named : {p : ℕ} → p ≡ s partners j → (p ≡ i + 1 → ⊥) → false ≡ sound_row s i
  later_not_named pq h = rw (by_parts, partner, ne_eqb (s partners j) (i + 1) (λ m. h (pq ∙ m)), and-false, and-false)

  pub later_number : {x n : ℕ} → x ≡ s next_number 0 → n ≡ s numbers i → x ≤ n → ltb n x ≡ sound_row s i
  later_number {x} {n} xq nq h = rw (by_parts, ← xq, ← nq, le-ltb n x h)

  bad_cancel : 1 < s cancels i → sound_fields s i ≡ false
  bad_cancel h = rw (lt-leb (s cancels i) 1 h, and-false, and-false, and-false, and-false, and-false, and-false, and-false)

  module _ (named : s partners j ≡ i + 1) where
    earlier_used : is_used s j ≡ true
    earlier_used = ⊎_elim
        (λ u. u)
        (λ u. let z : s partners j ≡ 0 = unused_blank_lem s j l.earlier u partners (omega arith) (omega arith) in absurd (omega arith))
        (either (is_used s j))

    fields : Fields s j
    fields = used_fields s j l.earlier earlier_used

    pairing : Paired s j
    pairing = used_paired s j l.earlier earlier_used (rw (ne_eqb (s partners j) 0 (λ z. omega arith)))

    same : Pair s j i
    same = let back : partner_of s j ≡ i = omega arith in rw back at pairing.pair

    kind : Kind s j → Kind s i
    kind (fop e f) = fop (sym same.kind ∙ e) (record {
      basket_below = rw (← same.object) f.basket_below;
      basket_known = rw (← same.object) f.basket_known;
      amount_low = rw (← same.amount) f.amount_low;
      amount_high = rw (← same.amount) f.amount_high;
      closing = rw (← same.closing) f.closing;
    })
    kind (return e r) = return (sym same.kind ∙ e) (record {
      exposure_below = rw (← same.object) r.exposure_below;
      exposure_used = rw (← same.object) r.exposure_used;
      giver = rw (← same.object, ← same.giver) r.giver;
      taker = rw (← same.object, ← same.taker) r.taker;
      amount_low = rw (← same.amount) r.amount_low;
      amount_high = rw (← same.amount) r.amount_high;
      closing = rw (← same.closing) r.closing;
    })

    later_fields : s numbers i < s next_number 0 → s cancels i ≤ 1 → Fields s i
    later_fields n c = record {
      number_below = n;
      side = omega (arith, same.opposite);
      parties = rw (← same.giver, ← same.taker) fields.parties;
      kind = kind fields.kind;
      settlement = rw (← same.settlement) fields.settlement;
      settled = rw (← same.settled, ← same.amount) fields.settled;
      partial = rw (← same.partial) fields.partial;
      cancel = c;
      end = rw (← same.end) fields.end;
    }

    later_pair : Pair s i j
    later_pair = record {
      partner_below = omega (arith, l.before, same.partner_below);
      named = named;
      opposite = omega (arith, same.opposite);
      kind = sym same.kind;
      giver = sym same.giver;
      taker = sym same.taker;
      object = sym same.object;
      amount = sym same.amount;
      settlement = sym same.settlement;
      closing = sym same.closing;
      settled = sym same.settled;
      end = sym same.end;
      partial = sym same.partial;
    }

    belongs : (is_return s j ≡ true) ⊎ (exposure_of_fop s j < 64) → (is_return s i ≡ true) ⊎ (exposure_of_fop s i < 64)
    belongs (inl e) = inl (rw (← same.kind) e)
    belongs (inr b) = inr (rw (← same.giver, ← same.taker, ← same.object, ← same.closing) b)

    later_paired : Paired s i
    later_paired = record { pair = rw partner later_pair; belongs = belongs pairing.belongs }

    later_sound : s numbers i < s next_number 0 → s cancels i ≤ 1 → sound_row s i ≡ true
    later_sound n c = paired_sound s i used (later_fields n c) paired later_paired

  -- the last of the three tests decides
  pub by_cancel : {p x n c : ℕ} → p ≡ s partners j → p ≡ i + 1 → x ≡ s next_number 0 → n ≡ s numbers i → n < x → c ≡ s cancels i → leb c 1 ≡ sound_row s i
  by_cancel {p} {x} {n} {c} pq h xq nq b cq =
      ⊎_elim
      (λ t. t ∙ sym (later_sound (sym pq ∙ h) (omega arith) (omega (arith, leb-true c 1 t))))
      (λ t. t ∙ sym (rw (by_parts, bad_cancel (omega (arith, leb-false c 1 t)))))
      (either (leb c 1))

-- the rows before, one more, and sixteen more
pub passed_none : (s : State) → Passed s (16 * 0)
passed_none s = record { each = λ j h. absurd (omega arith) }

pub passed_next : (s : State) {i : ℕ} {b : Bool} → Passed s i → b ≡ sound_row s i → not b ≡ false → Passed s (i + 1)
passed_next s {i} {b} r e f = record {
  each = λ j h. elim (ℕ_discrete j i) [
    | yes q ↦ rw q (sym e ∙ not-false b f)
    | no q ↦ r.each j (omega arith)
  ];
}

pub passed_sixteen : (s : State) (k : ℕ) {b : Bool} → Passed s (16 * k) → b ≡ all (sound_row s) 16 (16 * k) → not b ≡ false → Passed s (16 * (k + 1))
passed_sixteen s k {b} r e f = record {
  each = λ j h. elim (dec_lt j (16 * k)) [
    | yes q ↦ r.each j q
    | no q ↦ all_at (sound_row s) 16 (16 * k) (sym e ∙ not-false b f) j (omega arith) (omega arith)
  ];
}

-- the days of a sound row are open, or none
pub settlement_open : (s : State) (i : ℕ) {d : ℕ} → sound_row s i ≡ true → d ≡ s settlements i → open_or_none d ≡ true
settlement_open s i h q =
    rw q
    (⊎_elim
    (λ u. rw ((used_fields s i h u).settlement, or-true))
    (λ u. rw (unused_blank_lem s i h u settlements (omega arith) (omega arith)))
    (either (is_used s i)))

kind_closing : (s : State) (i : ℕ) → Kind s i → open_or_none (s closings i) ≡ true
kind_closing s i (fop e f) = f.closing
kind_closing s i (return e r) = rw r.closing

pub closing_open : (s : State) (i : ℕ) {d : ℕ} → sound_row s i ≡ true → d ≡ s closings i → open_or_none d ≡ true
closing_open s i h q =
    rw q
    (⊎_elim
    (λ u. kind_closing s i (used_fields s i h u).kind)
    (λ u. rw (unused_blank_lem s i h u closings (omega arith) (omega arith)))
    (either (is_used s i)))
