-- `calendar::next_open_day` meets its contract.
-- Assumes nothing.
use mathlib.Core.Path.{◌∙◌}
use Rattle.calendar.proofs.OpenDays.{unwrap_after}
use Rattle.calendar.proofs.next_open_day.Goals as goal

pub returns : goal.returns
returns c = c.unwrap_or.ensures ∙ unwrap_after c.args.day c.requires c.open_day_after.ensures
