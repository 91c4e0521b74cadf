-- `calendar::is_easter_holiday` meets its contract: Easter is in spring.
-- Assumes nothing.
use mathlib.Core.Path.{sym, ◌∙◌}
use Rattle.laws.proofs.Ranges.{contains_between}
use Rattle.calendar.proofs.Holidays.{out_of_spring}
use Rattle.calendar.proofs.is_easter_holiday.Goals as goal

pub returns-then-not-contains : goal.returns-then-not-contains
returns-then-not-contains c =
    let s = c.new.ensures in
    out_of_spring c.args.k c.args.n c.requires.1 (sym (contains_between 79 116 c.args.n s.start s.end s.exhausted c.contains.ensures.value) ∙ c.if-not-contains.true)
