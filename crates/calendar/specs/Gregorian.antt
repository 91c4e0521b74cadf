-- The Gregorian calendar, in days from 1 January 2002 (document 01, "Days": day 0).
-- Assumes nothing.
use Rattle.std.specs.Prelude.{Bool, true, false, not, ◌&&◌, ◌||◌, List, [], ◌∷◌, ℕ, zero, suc, ◌+◌, ◌-◌, ◌%◌, eqb, leb, take}
use Rattle.laws.specs.Search.{largest}

-- every fourth year is a leap year, but of the hundreds only every fourth
abbrev pub is_leap : ℕ → Bool
is_leap y = eqb (y % 4) 0 && (not (eqb (y % 100) 0) || eqb (y % 400) 0)

abbrev pub one_if : Bool → ℕ
one_if true = 1
one_if false = 0

-- the leap days of a year, 0 or 1
unfoldable pub leap_day : ℕ → ℕ
leap_day y = one_if (is_leap y)

-- the day on which the year 2002 + k begins
unfoldable pub start_of : ℕ → ℕ
start_of zero = 0
start_of (suc k) = start_of k + (365 + leap_day (2002 + k))

-- the year of a day, counted from 2002: the last of the 400 that begins no later
unfoldable pub year_of : ℕ → ℕ
year_of d = largest (λ k. leb (start_of k) d) 399

-- the day's place in its year, from 1
unfoldable pub day_of_year : ℕ → ℕ
day_of_year d = d - start_of (year_of d) + 1

abbrev total : List ℕ → ℕ
total [] = 0
total (x ∷ xs) = x + total xs

-- the lengths of the months of a year with so many leap days
abbrev months : ℕ → List ℕ
months leap = 31 ∷ (28 + leap) ∷ 31 ∷ 30 ∷ 31 ∷ 30 ∷ 31 ∷ 31 ∷ 30 ∷ 31 ∷ 30 ∷ 31 ∷ []

-- the place in such a year, from 1, of a day of a month, both from 1
abbrev pub date_of : ℕ → ℕ → ℕ → ℕ
date_of leap month day = total (take (month - 1) (months leap)) + day
