-- `row_tests::are_empty` meets its contract: the bytes below `k` are seen.
-- Assumes nothing.
use Prim.Native.Nat.{◌≤◌}
use lib.ListN.{length}
use Rattle.row_tests.proofs.Empty.{Seen}
use Rattle.row_tests.proofs.are_empty.Given as goal

abbrev pub invariant-loop-byte : goal.invariant-loop-byte
invariant-loop-byte l = (l.byte-index ≤ length l.bytes) × Seen l.bytes l.byte-index l.seen
