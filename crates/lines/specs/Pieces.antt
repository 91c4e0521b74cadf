-- The input served piece by piece, as it is read: what code and proofs need to say that the text is `program_text` of the whole.
-- Assumes nothing.
use Rattle.std.specs.Prelude.{◌≡◌, Bool, true, false, not, cond, List, [], ◌∷◌, ◌++◌, ℕ, zero, suc, ◌+◌, ltb, length, Some, None}
use Rattle.std.specs.declared.option.Option.{Option}
use Rattle.line_text.specs.Buffer.{with_text}
use Rattle.rules.specs.Call.{call_book}
use Rattle.lines.specs.Program.{record_length, first_record, front, behind, front_line, text_of, program_text}

-- what serving records leaves: the book, the lines' text, the bytes of the records served, the place of the next line
pub record Served : Type 0 where
  pub book : List ℕ
  pub text : List ℕ
  pub taken : ℕ
  pub place : ℕ

abbrev pub served : List ℕ → List ℕ → ℕ → ℕ → Served
served book text taken place = record { book = book; text = text; taken = taken; place = place }

-- the record at the front before others that were served after it
abbrev pub before : List ℕ → ℕ → Served → Served
before line n s = served s.book (line ++ s.text) (n + s.taken) s.place

-- the whole records at the front of a piece, at most n
unfoldable pub served_within : ℕ → List ℕ → ℕ → List ℕ → Served
served_within zero book place piece = served book [] 0 place
served_within (suc n) book place piece =
    cond (ltb 0 (first_record piece))
    (before (front_line book place piece) (first_record piece) (served_within n (call_book book (front piece)) (place + 1) (behind piece)))
    (served book [] 0 place)

-- all whole records at the front of a piece
abbrev pub served_all : List ℕ → ℕ → List ℕ → Served
served_all book place piece = served_within (length piece) book place piece

-- what a function that serves a piece has to leave: the book, the lines at the front of a buffer, and three numbers
pub record Serves (book₀ lines₀ : List ℕ) (place₀ : ℕ) (piece book lines : List ℕ) (place taken waiting : ℕ) : Type 0 where
  pub books : book ≡ (served_all book₀ place₀ piece).book
  pub texts : lines ≡ with_text lines₀ 0 (served_all book₀ place₀ piece).text
  pub waits : waiting ≡ length (served_all book₀ place₀ piece).text
  pub takes : taken ≡ (served_all book₀ place₀ piece).taken
  pub places : place ≡ (served_all book₀ place₀ piece).place

-- an input that more bytes may turn into a record: there is none yet, or its kind is known
unfoldable pub is_awaited : List ℕ → Bool
is_awaited [] = true
is_awaited (k ∷ b) = ltb 0 (record_length k)

-- Is nothing to be read any more, by what a read gave, and by what is then left of the input? So it is where the read gave no byte, and
-- where an unknown record stands at the front; a read that failed (`None`) is no end of the input.
unfoldable pub is_over : Option ℕ → List ℕ → Bool
is_over None rest = false
is_over (Some zero) rest = true
is_over (Some (suc n)) rest = not (is_awaited rest)

-- What holds between two reads, of all that was read and all that was handed to be written: with the text of what is held and of what is
-- still to come, whatever that is, it is the text of the whole input.
pub record Reached (input written book held : List ℕ) (place : ℕ) : Type 0 where
  pub whole : (later : List ℕ) → written ++ text_of book place (held ++ later) ≡ program_text (input ++ later)
