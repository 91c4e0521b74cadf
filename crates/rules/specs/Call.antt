-- One call with a record, whole: the answer and the book's bytes, for every book and record that a caller can lend.
-- Assumes nothing.
use Rattle.std.specs.Prelude.{◌≡◌, Bool, true, not, ◌&&◌, cond, List, [], ◌∷◌, ℕ, ◌<◌, eqb, length, get_or}
use Rattle.book.specs.Layout.{book_length}
use Rattle.book.specs.State.{State, state, image}
use Rattle.records.specs.Reading.{read}
use Rattle.rules.specs.Codes.{code_of}
use Rattle.rules.specs.DayChange.{next_day}
use Rattle.rules.specs.Fields.{fop_kind, return_kind, opening_kind}
use Rattle.rules.specs.Marking.{marked, recall}
use Rattle.rules.specs.Outcome.{Answer, answer, Step, silent}
use Rattle.rules.specs.Requesting.{entered, cancelled}
use Rattle.rules.specs.SetUp.{opened, priced, enrolled, basket_made, deposited, withdrawn}
use Rattle.rules.specs.Settlement.{settlement}
use Rattle.rules.specs.Sound.{sound}

-- the steps of the kinds 0 to 12
abbrev pub steps_of : State → List ℕ → List Step
steps_of s r =
    opened r
    ∷ priced s r
    ∷ enrolled s r
    ∷ basket_made s r
    ∷ deposited s r
    ∷ withdrawn s r
    ∷ entered s fop_kind r
    ∷ entered s return_kind r
    ∷ cancelled s r
    ∷ settlement s
    ∷ marked s
    ∷ recall s r
    ∷ next_day s
    ∷ []

unfoldable pub step_of : State → ℕ → List ℕ → Step
step_of s k r = get_or (steps_of s r) k (silent s)

-- the code of a record's bytes on a state: the reader's, else the rules'
unfoldable pub record_code : State → List ℕ → ℕ
record_code s bytes = cond (eqb (read bytes).code 0) (code_of s (read bytes).kind (read bytes).fields) (read bytes).code

-- "not tested for kind 0": the kind byte is 0
abbrev pub opens : List ℕ → Bool
opens bytes = not (eqb (length bytes) 0) && eqb (get_or bytes 0 0) opening_kind

-- "The lowest that applies": 1 book of another length, 2 book not sound, then the record's
unfoldable pub call_code : List ℕ → List ℕ → ℕ
call_code book bytes =
    cond (not (eqb (length book) book_length)) 1
    (cond (not (opens bytes) && not (sound (state book))) 2 (record_code (state book) bytes))

-- what an accepted record does
abbrev pub call_step : List ℕ → List ℕ → Step
call_step book bytes = step_of (state book) (read bytes).kind (read bytes).fields

-- "The answer's other fields are 0 and the book is unchanged."
unfoldable pub call_answer : List ℕ → List ℕ → Answer
call_answer book bytes =
    cond (eqb (call_code book bytes) 0)
    (answer 0 (call_step book bytes).a (call_step book bytes).b (call_step book bytes).m)
    (answer (call_code book bytes) 0 0 0)

unfoldable pub call_book : List ℕ → List ℕ → List ℕ
call_book book bytes = cond (eqb (call_code book bytes) 0) (image (call_step book bytes).state) book

-- an accepted call leaves a sound book whose state is the step's
pub record LeavesSound (book bytes : List ℕ) : Type 0 where
  pub stepped : state (call_book book bytes) ≡ (call_step book bytes).state
  pub still_sound : sound (state (call_book book bytes)) ≡ true

-- for every book of bytes and every record
abbrev pub AcceptedLeavesSound : Type 0
AcceptedLeavesSound = (book bytes : List ℕ) → ((i : ℕ) → get_or book i 0 < 256) → call_code book bytes ≡ 0 → LeavesSound book bytes
