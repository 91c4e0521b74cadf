-- `calendar::start_of` meets its contract: the closed form.
-- Assumes nothing.
use native.Mathlib.Omega.{arith}
use Rattle.calendar.proofs.Years.{start_closed}
use Rattle.calendar.proofs.start_of.Goals as goal

pub returns : goal.returns
returns c = omega (arith, start_closed c.args.k)
