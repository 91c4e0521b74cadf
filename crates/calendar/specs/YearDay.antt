-- A day by its year.
-- Assumes nothing.
use Rattle.std.specs.Prelude.{ℕ, ◌+◌}
use Rattle.calendar.specs.Gregorian.{year_of, day_of_year, leap_day}
use Rattle.calendar.specs.declared.YearDay as declared

unfoldable pub year_day : ℕ → declared.YearDay
year_day d = record { year = year_of d; leap = leap_day (2002 + year_of d); day = day_of_year d }
