-- `day_exposures::mark_rows` meets its contract: the exposures of the rows below `i` are marked.
-- Assumes nothing.
use native.Mathlib.Omega.{arith}
use Rattle.day_exposures.proofs.Marks.{marked_all, marked_none, marked_end}
use Rattle.day_exposures.proofs.mark_rows.Goals as goal

pub returns-then-not-is_any_empty : goal.returns-then-not-is_any_empty
returns-then-not-is_any_empty c = search marked_all

pub loop-i-init : goal.loop-i-init
loop-i-init c = (omega arith, search marked_none)

pub returns : goal.returns
returns c = search marked_end
