-- `records::are_in_ranges` meets its contract: what is left to test from j on decides.
-- Assumes nothing.
use native.Mathlib.Omega.{arith}
use Rattle.laws.proofs.Least.{loop_fails, loop_passes, loop_ends}
use Rattle.records.proofs.Ranges.{ranges_first}
use Rattle.records.proofs.record.are_in_ranges.Goals as goal

pub loop-j-init : goal.loop-j-init
loop-j-init c = (omega arith, search ranges_first)

pub returns-then-not-is_in_range : goal.returns-then-not-is_in_range
returns-then-not-is_in_range c = search loop_fails

pub loop-j-preserved : goal.loop-j-preserved
loop-j-preserved c = (omega arith, search loop_passes)

pub returns : goal.returns
returns c = search loop_ends
