-- The Gregorian rule of Easter Sunday (document 01, "Days"), in the form published by Meeus, Jones and Butcher.
-- Assumes nothing.
use Rattle.std.specs.Prelude.{ℕ, ◌+◌, ◌*◌, ◌-◌, ◌/◌, ◌%◌}
use Rattle.calendar.specs.Gregorian.{date_of, leap_day}

-- the day-of-year number of Easter Sunday of the year y; no difference here goes below 0
unfoldable pub easter : ℕ → ℕ
unfolding leap_day
easter y =
    let a = y % 19 in
    let b = y / 100 in
    let c = y % 100 in
    let g = (b - (b + 8) / 25 + 1) / 3 in
    let h = (19 * a + b + 15 - b / 4 - g) % 30 in
    let l = (32 + 2 * (b % 4) + 2 * (c / 4) - h - c % 4) % 7 in
    let m = (a + 11 * h + 22 * l) / 451 in
    let p = h + l + 114 - 7 * m in
    date_of (leap_day y) (p / 31) (p % 31 + 1)
