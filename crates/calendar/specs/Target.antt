-- Document 01, "Days": the days on which TARGET is open (ECB calendar from 2002), the next one, and the age of a price.
-- Assumes nothing.
use Rattle.std.specs.Prelude.{Bool, not, ◌||◌, ℕ, ◌+◌, ◌-◌, ◌%◌, eqb, ltb}
use Rattle.laws.specs.Search.{least, count}
use Rattle.calendar.specs.Gregorian.{year_of, day_of_year, leap_day, date_of}
use Rattle.calendar.specs.Easter.{easter}

-- "the last is 146,096": 31 December 2401
abbrev pub last_day : ℕ
last_day = 146096

-- "Day 0 is Tuesday"
abbrev pub is_saturday : ℕ → Bool
is_saturday d = eqb (d % 7) 4

abbrev pub is_sunday : ℕ → Bool
is_sunday d = eqb (d % 7) 5

-- Good Friday and Easter Monday, where Easter Sunday is the day e of the year
abbrev pub easter_holiday : ℕ → ℕ → Bool
easter_holiday e n = eqb (n + 2) e || eqb n (e + 1)

-- the day n of a year with so many leap days and Easter Sunday on day e: 1 January, Good Friday, Easter Monday, 1 May, 25 December, 26 December
unfoldable pub holiday : ℕ → ℕ → ℕ → Bool
holiday leap e n =
    eqb n (date_of leap 1 1) || (easter_holiday e n || (eqb n (date_of leap 5 1) || (eqb n (date_of leap 12 25) || eqb n (date_of leap 12 26))))

-- day n of the year y is a holiday
abbrev pub holiday_of : ℕ → ℕ → Bool
holiday_of y n = holiday (leap_day y) (easter y) n

-- open: not after the last day, no Saturday, no Sunday, no holiday of its year
unfoldable pub open_day : ℕ → Bool
open_day d = not (ltb last_day d || (is_saturday d || (is_sunday d || holiday_of (2002 + year_of d) (day_of_year d))))

-- the first open day after a day up to the last, and 146,097 where there is none
unfoldable pub next_open_day : ℕ → ℕ
next_open_day d = least open_day (last_day - d) (d + 1)

-- "The age of a price is the number of open days after its quote day up to and including today"
unfoldable pub age : ℕ → ℕ → ℕ
age quote today = count open_day (today - quote) (quote + 1)
