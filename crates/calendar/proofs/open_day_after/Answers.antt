-- `calendar::open_day_after` meets its contract.
-- Assumes nothing.
use native.Mathlib.Omega.{arith}
use borrow.Author.Rules.{rules}
use Rattle.laws.proofs.Ranges.{find_over_range}
use Rattle.calendar.specs.Target.{open_day}
use Rattle.calendar.proofs.OpenDays.{after_from_least}
use Rattle.calendar.proofs.open_day_after.Goals as goal

pub returns : goal.returns
returns c = after_from_least c.args.day c.find.result (omega arith) (find_over_range open_day _ _ c.find.result (omega arith) c.find.ensures.ran (λ x b q k. search rules))
