-- Document 01, "Codes", for the parts that work without the book: a code, and one number that is 0 in a refusal.
-- Assumes nothing.
use Rattle.std.specs.Prelude.{Bool, true, false, ℕ}
use Rattle.answers.specs.declared.CodedValue.{CodedValue}

-- 3: no or unknown kind, or body of another length
abbrev pub malformed : ℕ
malformed = 3

-- 4: field out of range
abbrev pub out_of_range : ℕ
out_of_range = 4

-- 7: a day not open or above 146,096; quote after today; no next day
abbrev pub bad_day : ℕ
bad_day = 7

-- an accepted call has code 0
abbrev pub accepted : ℕ → CodedValue
accepted v = record { code = 0; value = v }

-- "The answer's other fields are 0"
abbrev pub refused : ℕ → CodedValue
refused c = record { code = c; value = 0 }

-- the number where the test holds, and else the refusal
abbrev pub accepted_if : Bool → ℕ → ℕ → CodedValue
accepted_if true c v = accepted v
accepted_if false c v = refused c
