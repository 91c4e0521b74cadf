-- `calendar::is_open` meets its contract.
-- Assumes nothing.
use Prim.Native.Nat.{◌+◌, ◌≤◌}
use native.Mathlib.Omega.{arith}
use borrow.Author.Rules.{rules}
use borrow.Author.Tests.{tests}
use Rattle.calendar.specs.Gregorian.{year_of}
use Rattle.calendar.specs.Target.{open_day}
use Rattle.calendar.specs.YearDay.{year_day}
use Rattle.calendar.proofs.Years.{year_le, leap_le, day_le}
use Rattle.calendar.proofs.is_open.Goals as goal

pub returns-then-day-gt-LAST_DAY : goal.returns-then-day-gt-LAST_DAY
unfolding open_day
returns-then-day-gt-LAST_DAY c = search (rules, tests)

pub is_holiday-requires : goal.is_holiday-requires
unfolding year_day
is_holiday-requires c =
    let d = c.args.day in
    let in-time : d ≤ 146096 = omega arith in
    rw c.year_day-d.ensures (day_le d in-time, leap_le (2002 + year_of d), omega (arith, year_le d))

pub returns : goal.returns
unfolding open_day year_day
returns c = search (rules, tests)
