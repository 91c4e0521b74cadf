-- The cases marked P hold: one test over their table, computed from the definitions.
-- Assumes nothing.
use mathlib.Core.Path.{refl}
use Rattle.laws.specs.Search.{largest, least, count}
use Rattle.calendar.specs.Easter.{easter}
use Rattle.calendar.specs.Gregorian.{leap_day, start_of, year_of, day_of_year}
use Rattle.calendar.specs.Target.{holiday, open_day, next_open_day, age}
use Rattle.valuation.specs.Value.{value}
use Rattle.edges.specs.Edges.{edges, EdgesHold}

pub edges_hold : EdgesHold
unfolding edges value open_day holiday next_open_day age day_of_year year_of start_of leap_day easter largest least count
edges_hold = refl
