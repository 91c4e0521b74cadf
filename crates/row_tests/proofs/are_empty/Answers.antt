-- `row_tests::are_empty` meets its contract: the bytes below `k` are seen.
-- Assumes nothing.
use native.Mathlib.Omega.{arith}
use Rattle.row_tests.proofs.Empty.{seen_starts, seen_next, seen_ends}
use Rattle.row_tests.proofs.are_empty.Goals as goal

pub loop-byte-init : goal.loop-byte-init
loop-byte-init c = (omega arith, search seen_starts)

pub loop-byte-preserved : goal.loop-byte-preserved
loop-byte-preserved c = (omega arith, search seen_next)

pub returns : goal.returns
returns c = search seen_ends
