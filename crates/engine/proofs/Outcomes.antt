-- What each outcome of the exported call shows of its answer and of the book.
-- Assumes nothing.
use mathlib.Core.Path.{◌≡◌, refl, sym, ap, ◌∙◌}
use mathlib.Core.Bool.{true, false, not}
use mathlib.Core.List.{List}
use mathlib.Core.Logic.{⊎_elim}
use Prim.Native.Nat.{ℕ, ◌<◌}
use native.Mathlib.Omega.{arith}
use lib.Dec.{eqb}
use lib.ListN.{length, get_or}
use borrow.Author.Tests.{ne_eqb, eqb-true, not-false}
use Rattle.answers.specs.declared.Refusal.{Refusal}
use Rattle.answers.specs.Refusals.{number}
use Rattle.answers.proofs.Refusals.{number_some as some_code}
use Rattle.laws.proofs.Cases.{either, and_right}
use Rattle.book.specs.State.{state}
use Rattle.book.proofs.Images.{image_state}
use Rattle.record_kinds.specs.Numbered.{kind_number}
use Rattle.record_kinds.specs.declared.Kind.{Kind}
use Rattle.record_kinds.specs.declared.Kind.TheVariants.{Opening, Price, Participant, Basket, Deposit, Withdrawal, Fop, Return, Cancel, Settle, Mark, Recall, NextDay}
use Rattle.records.specs.Reading.{read, taken, refused_reading}
use Rattle.records.specs.declared.Reading as declared
use Rattle.records.proofs.Readings.{reading_taken}
use Rattle.rules.specs.Call.{step_of, record_code, opens, call_code, call_answer, call_book}
use Rattle.rules.specs.Codes.{code_of}
use Rattle.rules.specs.Outcome.{answer}
use Rattle.rules.specs.Sound.{sound}
use Rattle.totals.specs.Totals.{totals_of}
use Rattle.totals.specs.declared.Totals as totals
use Rattle.damage.specs.Damage.{book_damage}
use Rattle.damage.proofs.Damage.{Passed, passes, damaged_code, passed_code}
use Rattle.engine.specs.Accepted.{Taken, Accepted}

-- a refusal: the code in the answer, and the book as it was
module _ (b r : List ℕ) (e : Refusal) (code : call_code b r ≡ number e) where
  pub refused_book : b ≡ call_book b r
  unfolding call_book
  refused_book = rw (code, ne_eqb (number e) 0 (some_code e)) refl

  pub refused_answer : answer (number e) 0 0 0 ≡ call_answer b r
  unfolding call_answer
  refused_answer = rw (code, ne_eqb (number e) 0 (some_code e)) refl

module _ (b r : List ℕ) where
  pub other_length : (length b ≡ 49152 → ⊥) → call_code b r ≡ 1
  unfolding call_code
  other_length n = rw (ne_eqb (length b) 49152 n) refl

  pub by_damage : (e : Refusal) → number e ≡ book_damage b (opens r) → call_code b r ≡ number e
  unfolding call_code
  by_damage e h = damaged_code b (opens r) (record_code (state b) r) h (some_code e)

  module _ (none : 0 ≡ book_damage b (opens r)) where
    passed : Passed b (opens r)
    passed = passes b (opens r) none refl

    reader_code : call_code b r ≡ record_code (state b) r
    unfolding call_code
    reader_code = passed_code b (opens r) (record_code (state b) r) passed

    pub by_reader : (e : Refusal) → refused_reading (number e) ≡ read r → call_code b r ≡ number e
    unfolding record_code
    by_reader e h = reader_code ∙ rw (← h, ne_eqb (number e) 0 (some_code e)) refl

    module _ (k : Kind) (fields : List ℕ) (h : taken (kind_number k) fields ≡ read r) where
      first_byte : opens r ≡ true → kind_number k ≡ 0
      first_byte o =
          ap (λ (x : declared.Reading). x.kind) h
          ∙ (reading_taken r (sym (ap (λ (x : declared.Reading). x.code) h))).first_byte
          ∙ eqb-true (get_or r 0 0) 0 (and_right (not (eqb (length r) 0)) (eqb (get_or r 0 0) 0) o)

      pub taken_record : Taken b k
      taken_record = record {
        sound_book = λ n.
            ⊎_elim
            (λ (o : opens r ≡ true). absurd (n (first_kind k (first_byte o))))
            (λ (o : opens r ≡ false). not-false (sound (state b)) (rw o at passed.no_damage))
            (either (opens r));
      }
        where
          first_kind : (k : Kind) → kind_number k ≡ 0 → k ≡ Opening
          first_kind Opening z = refl
          first_kind Price z = absurd (omega arith)
          first_kind Participant z = absurd (omega arith)
          first_kind Basket z = absurd (omega arith)
          first_kind Deposit z = absurd (omega arith)
          first_kind Withdrawal z = absurd (omega arith)
          first_kind Fop z = absurd (omega arith)
          first_kind Return z = absurd (omega arith)
          first_kind Cancel z = absurd (omega arith)
          first_kind Settle z = absurd (omega arith)
          first_kind Mark z = absurd (omega arith)
          first_kind Recall z = absurd (omega arith)
          first_kind NextDay z = absurd (omega arith)

      module _ {c : ℕ} (f : c ≡ code_of (state b) (kind_number k) fields) where
        pub by_code : call_code b r ≡ c
        unfolding record_code
        by_code = reader_code ∙ rw (← h, ← f) refl

        module _ (z : c ≡ 0) where
          pub accepted_record : Accepted b k fields
          accepted_record = record { taken = taken_record; no_rule = sym f ∙ z }

          pub accepted_book : (after : List ℕ) → length after ≡ length b → ((i : ℕ) → get_or after i 0 < 256) → state after ≡ (step_of (state b) (kind_number k) fields).state → after ≡ call_book b r
          unfolding call_book
          accepted_book after same small g = rw (by_code ∙ z, ← h, ← g) (sym (image_state after (same ∙ passed.long) small))

          pub accepted_answer : (t : totals.Totals) → t ≡ totals_of (step_of (state b) (kind_number k) fields) → answer 0 t.a t.b t.m ≡ call_answer b r
          unfolding call_answer
          accepted_answer t g = rw (by_code ∙ z, ← h, g) refl
