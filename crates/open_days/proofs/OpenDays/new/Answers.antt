-- `open_days::OpenDays::new` makes sixteen open days: the first one, in each slot.
-- Assumes nothing.
use mathlib.Core.Path.{◌≡◌, refl}
use mathlib.Core.Bool.{true}
use Prim.Native.Nat.{ℕ}
use lib.ListN.{replicate, get_or-replicate}
use Rattle.laws.specs.Search.{largest}
use Rattle.calendar.specs.Easter.{easter}
use Rattle.calendar.specs.Gregorian.{day_of_year, start_of, year_of, leap_day}
use Rattle.calendar.specs.Target.{open_day, holiday}
use Rattle.open_days.specs.Days.{AreOpen}
use Rattle.open_days.proofs.OpenDays.new.Goals as goal

-- 2 January 2002
first_open : open_day 1 ≡ true
unfolding open_day holiday day_of_year start_of year_of leap_day easter largest
first_open = refl

all_first : AreOpen (replicate 16 1)
all_first k l = rw (get_or-replicate {A = ℕ} 16 k 1 0 l) first_open

pub invariant_of-result : goal.invariant_of-result
invariant_of-result c = record { «open» = all_first }
