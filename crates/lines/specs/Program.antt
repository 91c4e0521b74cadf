-- Document 01, "The program's lines": the text that the program prints for a whole input. The bytes of a line are in line_text's Text.antt.
-- Assumes nothing.
use Rattle.std.specs.Prelude.{cond, List, [], ◌∷◌, ◌++◌, ℕ, zero, suc, ◌+◌, leb, ltb, length, get_or, take, drop, replicate}
use Rattle.book.specs.Layout.{book_length}
use Rattle.record_kinds.specs.Kinds.{known, length_of}
use Rattle.rules.specs.Call.{call_answer, call_book}
use Rattle.line_text.specs.Text.{line_of, last_line}

-- the bytes of a record of a kind, its kind's byte included; 0 where there is no such kind
unfoldable pub record_length : ℕ → ℕ
record_length k = cond (known k) (length_of k) 0

-- the bytes of the record at the front of the input; 0 where there is none, or it is cut or unknown
unfoldable pub first_record : List ℕ → ℕ
first_record [] = 0
first_record (k ∷ b) = cond (leb (record_length k) (length (k ∷ b))) (record_length k) 0

-- the record at the front
abbrev pub front : List ℕ → List ℕ
front input = take (first_record input) input

-- what is behind it
abbrev pub behind : List ℕ → List ℕ
behind input = drop (first_record input) input

-- its line: the place, its kind, and what its call answers
abbrev pub front_line : List ℕ → ℕ → List ℕ → List ℕ
front_line book place input = line_of place (get_or input 0 0) (call_answer book (front input))

-- "prints a line for each": that of the record at the front, then the text of what is behind it, with the book that its call left; "a cut or
-- unknown record prints code 3 and ends it". Of at most n records.
unfoldable pub text_within : ℕ → List ℕ → ℕ → List ℕ → List ℕ
text_within zero book place input = []
text_within (suc n) book place input =
    cond (ltb 0 (first_record input))
    (front_line book place input ++ text_within n (call_book book (front input)) (place + 1) (behind input))
    (last_line place input)

-- the text from a book and a place on; an input has no more records than bytes
abbrev pub text_of : List ℕ → ℕ → List ℕ → List ℕ
text_of book place input = text_within (length input) book place input

-- "Its book starts as zero bytes"
unfoldable pub zero_book : List ℕ
zero_book = replicate book_length 0

-- what the program prints: "place from 1"
unfoldable pub program_text : List ℕ → List ℕ
program_text input = text_of zero_book 1 input
