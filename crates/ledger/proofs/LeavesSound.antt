-- An accepted call leaves a sound book: a paper on which the book's own holdings and amounts are the sums is in order, and an accepted
-- record leaves it in order.
-- Assumes nothing.
use mathlib.Core.Path.{◌≡◌, refl}
use mathlib.Core.Bool.{Bool, true, false, not, ◌&&◌, cond}
use mathlib.Core.List.{List}
use mathlib.Core.Logic.{⊎_elim}
use Prim.Native.Nat.{ℕ, ◌<◌}
use native.Mathlib.Omega.{arith}
use lib.Dec.{eqb}
use lib.ListN.{length, get_or}
use borrow.Author.Tests.{eqb-true}
use Rattle.laws.proofs.Cases.{either}
use Rattle.book.specs.Layout.{book_length, exposure_amounts}
use Rattle.book.specs.State.{State, state}
use Rattle.book.proofs.Images.{state_image, state_fits}
use Rattle.facts.proofs.Written.{sound_facts, facts_sound}
use Rattle.facts.specs.Good.{Good}
use Rattle.records.specs.Reading.{read}
use Rattle.records.proofs.Readings.{reading_taken}
use Rattle.rules.specs.Call.{step_of, record_code, opens, call_code, call_step, call_book, AcceptedLeavesSound}
use Rattle.rules.specs.Sound.{sound}
use Rattle.rules.specs.Stock.{holding}
use Rattle.ledger.specs.Ledger.{Paper, Opened, taken_down}
use Rattle.ledger.proofs.Demand3.{accepted_record, taken_steps, kind_zero, legal, no_rule, steps_keep}
use Rattle.ledger.proofs.Paper.{InOrder, on_paper_lem}
use Rattle.ledger.proofs.Steps.{opening_in_order, taken_in_order}

-- the paper of a book: what each participant holds as deposited, what each exposure is as settled
abbrev paper_of : State → Paper
paper_of s = record { steps = s; deposits = holding s; withdrawals = λ q i. 0; sums = record { settled_in = s exposure_amounts; returns = λ e. 0; closes = λ e. 0 } }

in_order : (s : State) → Good s → InOrder (paper_of s)
in_order s g = record { good = g; amounts = λ e. omega arith; bonds = λ q i h l. omega arith }

-- the step of an accepted record leaves a good state
good_step : (s : State) (bytes : List ℕ) → Good s → record_code s bytes ≡ 0 → Good (step_of s (read bytes).kind (read bytes).fields).state
good_step s bytes g h =
    let o = in_order s g in
    let k = (read bytes).kind in
    let r = (read bytes).fields in
    let accepted = accepted_record s bytes h in
    let taken = reading_taken bytes accepted.0 in
    let after = (taken_in_order (paper_of s) o r steps_keep k taken.known_kind taken.legal accepted.1).good in
    let left : (taken_down (paper_of s) k r).steps ≡ (step_of s k r).state = rw (on_paper_lem (paper_of s) o) at (taken_steps (paper_of s) k r) in
    rw left at after

-- 1 and 2 do not apply to an accepted record
module _ (b bytes : List ℕ) (accepted : call_code b bytes ≡ 0) where
  right_length : length b ≡ book_length
  unfolding call_code
  right_length = ⊎_elim (λ e. eqb-true (length b) book_length e) (λ e. absurd (refused (rw e at accepted))) (either (eqb (length b) book_length))
    where
      refused : ◌≡◌ {A = ℕ} 1 0 → ⊥
      refused e = omega arith

  tested : opens bytes ≡ false → sound (state b) ≡ true
  unfolding call_code
  tested n = go (eqb (length b) book_length) (sound (state b)) (rw n at accepted)
    where
      go : (l t : Bool) → cond (not l) 1 (cond (not t) 2 (record_code (state b) bytes)) ≡ 0 → t ≡ true
      go true true h = refl
      go true false h = absurd (omega arith)
      go false t h = absurd (omega arith)

  its_code : record_code (state b) bytes ≡ 0
  unfolding call_code
  its_code = go (eqb (length b) book_length) (not (opens bytes) && not (sound (state b))) accepted
    where
      go : (l t : Bool) → cond (not l) 1 (cond t 2 (record_code (state b) bytes)) ≡ 0 → record_code (state b) bytes ≡ 0
      go true false h = h
      go true true h = absurd (omega arith)
      go false t h = absurd (omega arith)

  -- the state that it leaves: of an opening, whatever the book held; else of a sound book
  opened_good : opens bytes ≡ true → Good (call_step b bytes).state
  unfolding taken_down step_of
  opened_good e =
      let o : Opened b bytes = record { kind = e; accepted = accepted } in
      let zero = kind_zero b bytes o in
      rw zero (opening_in_order (paper_of (state b)) (read bytes).fields (legal b bytes o) (no_rule b bytes o)).good

  left_good : ((i : ℕ) → get_or b i 0 < 256) → Good (call_step b bytes).state
  left_good small =
      ⊎_elim opened_good
      (λ n. good_step (state b) bytes (record { facts = sound_facts (state b) (tested n); fits = state_fits b right_length small }) its_code)
      (either (opens bytes))

  left_state : Good (call_step b bytes).state → state (call_book b bytes) ≡ (call_step b bytes).state
  unfolding call_book
  left_state g = rw accepted (state_image (call_step b bytes).state g.fits)

pub accepted_leaves_sound : AcceptedLeavesSound
accepted_leaves_sound b bytes small accepted =
    let g = left_good b bytes accepted small in
    let e = left_state b bytes accepted g in
    record { stepped = e; still_sound = rw e (facts_sound (call_step b bytes).state g.facts) }
