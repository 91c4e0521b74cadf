-- What the calendar answers a host, which may ask of any numbers: document 01's code 7 or the number.
-- Assumes nothing.
use Rattle.std.specs.Prelude.{◌&&◌, ℕ, leb}
use Rattle.answers.specs.declared.CodedValue.{CodedValue}
use Rattle.answers.specs.Answers.{accepted_if, bad_day}
use Rattle.calendar.specs.Gregorian.{one_if}
use Rattle.calendar.specs.Target.{last_day, open_day, next_open_day, age}

-- 1 for an open day, 0 for a closed one; 7 above 146,096
unfoldable pub is_open_answer : ℕ → CodedValue
is_open_answer d = accepted_if (leb d last_day) bad_day (one_if (open_day d))

-- the next open day; 7 where the day named is not open, or there is no next day
unfoldable pub next_open_day_answer : ℕ → CodedValue
next_open_day_answer d = accepted_if (open_day d && leb (next_open_day d) last_day) bad_day (next_open_day d)

-- the age of a price; 7 where a day named is not open, or the quote is after today
unfoldable pub age_answer : ℕ → ℕ → CodedValue
age_answer quote today = accepted_if (open_day quote && (open_day today && leb quote today)) bad_day (age quote today)
