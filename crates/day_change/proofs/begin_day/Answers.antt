-- `day_change::begin_day` meets its contract.
-- Assumes nothing.
use mathlib.Core.Path.{ap, ◌∙◌}
use native.Mathlib.Omega.{arith}
use Rattle.calendar.specs.Target.{next_open_day}
use Rattle.book.specs.State.{state}
use Rattle.rules.specs.DayChange.{on_next_day}
use Rattle.facts.proofs.Written.{sound_facts}
use Rattle.facts.proofs.Stock.{today_le}
use Rattle.day_laws.proofs.Profiles.{next_day_within}
use Rattle.day_change.proofs.begin_day.Goals as goal

pub next_open_day-next-requires : goal.next_open_day-next-requires
next_open_day-next-requires c =
    let before = state c.args.book.now in
    omega (arith, c.get-today.ensures, today_le before (sound_facts before c.requires.0))

pub set-requires : goal.set-requires
set-requires c =
    let day = c.next_open_day-next.ensures ∙ ap next_open_day c.get-today.ensures in
    (omega arith, omega (arith, day, next_day_within (state c.args.book.now) c.requires.1))

pub returns : goal.returns
unfolding on_next_day
returns c =
    let day = c.next_open_day-next.ensures ∙ ap next_open_day c.get-today.ensures in
    (day, rw (c.change_profiles.ensures, c.set.ensures, day))
