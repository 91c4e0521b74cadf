-- Demand 3: a list of calls does on the book what it does on paper.
-- Assumes nothing.
use mathlib.Core.Path.{◌≡◌, refl, sym, ap, ap₂, ◌∙◌}
use mathlib.Core.Bool.{Bool, true, false, not, cond, and-false}
use mathlib.Core.List.{List, [], ◌∷◌}
use mathlib.Core.Logic.{⊎_elim}
use Prim.Native.Nat.{ℕ}
use native.Mathlib.Omega.{arith}
use lib.Dec.{eqb}
use lib.ListN.{length, get_or}
use borrow.Author.Tests.{eqb-true, eqb-false, eq-eqb}
use Rattle.laws.proofs.Cases.{either, and_right}
use Rattle.records.specs.Reading.{read}
use Rattle.records.specs.Writing.{are_legal}
use Rattle.book.specs.Layout.{book_length}
use Rattle.book.specs.State.{State, state, image}
use Rattle.book.proofs.Images.{state_image, image_length}
use Rattle.rules.specs.Call.{step_of, record_code, call_code, call_book}
use Rattle.rules.specs.Codes.{opening_rules, code_of}
use Rattle.ledger.specs.Ledger.{Call, send, ask, Paper, on_paper, taken_down, paper_code, paper_next, paper_codes, paper_after, book_code, book_next, book_codes, book_after, Agrees, Opened, Demand3}
use Rattle.rules.specs.Outcome.{lowest}
use Rattle.rules.specs.Reads.{Read, read_rules, read_code}
use Rattle.facts.proofs.Written.{facts_sound}
use Rattle.facts.specs.Good.{Good}
use Rattle.request_laws.proofs.Entering.{keeps_fop, keeps_return}
use Rattle.request_laws.proofs.Cancelling.{keeps_cancel}
use Rattle.settlement_laws.proofs.Keeping.{keeps_settlement}
use Rattle.marking_laws.proofs.Marking.{keeps_mark, keeps_recall}
use Rattle.day_laws.proofs.NextDay.{keeps_next_day}
use Rattle.ledger.proofs.Paper.{InOrder, on_paper_lem}
use Rattle.records.proofs.Readings.{reading_taken}
use Rattle.ledger.proofs.Steps.{StepsKeep, opening_in_order, taken_in_order}

-- an accepted record: the reader took it, and no rule of its kind applies
code_cases : (c n : ℕ) → cond (eqb c 0) n c ≡ 0 → (c ≡ 0) × (n ≡ 0)
code_cases c n h =
    ⊎_elim
    (λ z. (eqb-true c 0 z, rw z at h))
    (λ z. absurd (eqb-false c 0 z (rw z at h)))
    (either (eqb c 0))

module _ (s : State) (bytes : List ℕ) where
  pub accepted_record : record_code s bytes ≡ 0 → ((read bytes).code ≡ 0) × (code_of s (read bytes).kind (read bytes).fields ≡ 0)
  unfolding record_code
  accepted_record h = code_cases (read bytes).code (code_of s (read bytes).kind (read bytes).fields) h

-- the state that a record leaves on paper is its step's
pub taken_steps : (p : Paper) (k : ℕ) (r : List ℕ) → (taken_down p k r).steps ≡ (step_of (on_paper p) k r).state
unfolding taken_down
taken_steps p k r = ⊎_elim (λ z. rw z) (λ z. rw z) (either (eqb k 0))

-- a call on the bytes of a sound state: neither 1 nor 2 comes, and the step is the state's
module _ (s : State) (good : Good s) where
  long : eqb (length (image s)) book_length ≡ true
  long = eq-eqb (length (image s)) book_length (image_length s)

  same_state : state (image s) ≡ s
  same_state = state_image s good.fits

  record_code_lem : (bytes : List ℕ) → call_code (image s) bytes ≡ record_code s bytes
  unfolding call_code
  record_code_lem bytes = rw (long, same_state, facts_sound s good.facts, and-false)

  read_code_lem : (q : Read) → read_code (image s) q ≡ lowest (read_rules s q)
  unfolding read_code
  read_code_lem q = rw (long, same_state, facts_sound s good.facts)

  record_book : (bytes : List ℕ) → call_book (image s) bytes ≡ cond (eqb (record_code s bytes) 0) (image (step_of s (read bytes).kind (read bytes).fields).state) (image s)
  unfolding call_book
  record_book bytes = rw (record_code_lem bytes, same_state)

-- one call, from a book that is the paper's bytes
module _ (p : Paper) (o : InOrder p) where
  same_code : (c : Call) → book_code (image p.steps) c ≡ paper_code p c
  unfolding book_code paper_code
  same_code (send bytes) = rw (on_paper_lem p o) (record_code_lem p.steps o.good bytes)
  same_code (ask q) = rw (on_paper_lem p o) (read_code_lem p.steps o.good q)

  same_book : (c : Call) → book_next (image p.steps) c ≡ image (paper_next p c).steps
  unfolding book_next paper_next
  same_book (send bytes) = rw (on_paper_lem p o) (record_book p.steps o.good bytes ∙ go (eqb (record_code p.steps bytes) 0))
    where
      k : ℕ
      k = (read bytes).kind

      r : List ℕ
      r = (read bytes).fields

      left : (taken_down p k r).steps ≡ (step_of p.steps k r).state
      left = rw (on_paper_lem p o) at (taken_steps p k r)

      go : (t : Bool) → cond t (image (step_of p.steps k r).state) (image p.steps) ≡ image (cond t (taken_down p k r) p).steps
      go true = ap image (sym left)
      go false = refl
  same_book (ask q) = refl

  next_in_order : StepsKeep → (c : Call) → InOrder (paper_next p c)
  unfolding paper_next
  next_in_order laws (send bytes) = rw (on_paper_lem p o) (go (eqb (record_code p.steps bytes) 0) refl)
    where
      go : (t : Bool) → eqb (record_code p.steps bytes) 0 ≡ t → InOrder (cond t (taken_down p (read bytes).kind (read bytes).fields) p)
      go true e =
          let accepted = accepted_record p.steps bytes (eqb-true (record_code p.steps bytes) 0 e) in
          let record_taken = reading_taken bytes accepted.0 in
          taken_in_order p o (read bytes).fields laws (read bytes).kind record_taken.known_kind record_taken.legal accepted.1
      go false e = o
  next_in_order laws (ask q) = o

-- a list of calls, from a book that is the paper's bytes
record Run (b : List ℕ) (p : Paper) (calls : List Call) : Type 0 where
  codes : book_codes b calls ≡ paper_codes p calls
  left : book_after b calls ≡ image (paper_after p calls).steps
  in_order : InOrder (paper_after p calls)

run : StepsKeep → (calls : List Call) (b : List ℕ) (p : Paper) → b ≡ image p.steps → InOrder p → Run b p calls
unfolding book_codes book_after paper_codes paper_after
run laws [] b p e o = record { codes = refl; left = e; in_order = o }
run laws (c ∷ calls) b p e o =
    let rest = run laws calls (book_next b c) (paper_next p c) (rw e (same_book p o c)) (next_in_order p o laws c) in
    record { codes = ap₂ ◌∷◌ (rw e (same_code p o c)) rest.codes; left = rest.left; in_order = rest.in_order }

-- what holds of a book that is the bytes of a paper in order
agrees : (b : List ℕ) (p : Paper) → b ≡ image p.steps → InOrder p → Agrees (state b) p
agrees b p e o =
    let d : state b ≡ p.steps = ap state e ∙ same_state p.steps o.good in
    rw d
    (record {
      bonds = λ q i h l. omega (arith, o.bonds q i h l);
      withdrawn_within = λ q i h l. omega (arith, o.bonds q i h l);
      keys = λ e l. refl;
      amounts = λ e l. omega (arith, o.amounts e);
      not_below = λ e l. omega (arith, o.amounts e);
    })

-- the first call, an accepted opening: whatever the book held, and whatever stood on the paper
module _ (b bytes : List ℕ) (o : Opened b bytes) where
  at_record : record_code (state b) bytes ≡ 0
  unfolding call_code
  at_record = go (eqb (length b) book_length) (rw o.kind at o.accepted)
    where
      go : (t : Bool) → cond (not t) 1 (record_code (state b) bytes) ≡ 0 → record_code (state b) bytes ≡ 0
      go true h = h
      go false h = absurd (omega arith)

  record_taken : (read bytes).code ≡ 0
  record_taken = (accepted_record (state b) bytes at_record).0

  pub kind_zero : (read bytes).kind ≡ 0
  kind_zero = (reading_taken bytes record_taken).first_byte ∙ eqb-true (get_or bytes 0 0) 0 (and_right (not (eqb (length bytes) 0)) (eqb (get_or bytes 0 0) 0) o.kind)

  pub legal : are_legal 0 (read bytes).fields ≡ true
  legal = rw kind_zero at (reading_taken bytes record_taken).legal

  pub no_rule : lowest (opening_rules (read bytes).fields) ≡ 0
  unfolding code_of
  no_rule = rw kind_zero at (accepted_record (state b) bytes at_record).1

  -- an opening's code and step do not depend on the state
  opening_code : (s : State) → record_code s bytes ≡ 0
  unfolding record_code code_of
  opening_code s = rw (record_taken, kind_zero) no_rule

  opened_book : (p : Paper) → call_book b bytes ≡ image (taken_down p 0 (read bytes).fields).steps
  unfolding call_book taken_down step_of
  opened_book p = rw (o.accepted, kind_zero)

  opened_paper : (p : Paper) → paper_next p (send bytes) ≡ taken_down p 0 (read bytes).fields
  unfolding paper_next
  opened_paper p = rw (opening_code (on_paper p), kind_zero)

-- what the kinds 6 to 12 keep
pub steps_keep : StepsKeep
steps_keep = record {
  fop = keeps_fop;
  return = keeps_return;
  cancel = keeps_cancel;
  settle = keeps_settlement;
  mark = keeps_mark;
  recalls = keeps_recall;
  next_day_lem = keeps_next_day;
}

-- demand 3
pub demand_3 : Demand3
unfolding book_code book_next paper_code book_codes book_after paper_codes paper_after
demand_3 b p bytes calls o =
    let next = opened_paper b bytes o p in
    let start : InOrder (paper_next p (send bytes)) = rw next (opening_in_order p (read bytes).fields (legal b bytes o) (no_rule b bytes o)) in
    let book : call_book b bytes ≡ image (paper_next p (send bytes)).steps = rw next (opened_book b bytes o p) in
    let rest = run steps_keep calls (call_book b bytes) (paper_next p (send bytes)) book start in
    record {
      codes = ap₂ ◌∷◌ (o.accepted ∙ sym (opening_code b bytes o (on_paper p))) rest.codes;
      agrees = agrees (book_after (call_book b bytes) calls) (paper_after (paper_next p (send bytes)) calls) rest.left rest.in_order;
    }
