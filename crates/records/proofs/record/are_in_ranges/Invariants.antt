-- `records::are_in_ranges` meets its contract: what is left to test from j on decides.
-- Assumes nothing.
use Prim.Native.Nat.{◌≤◌}
use Rattle.laws.proofs.Least.{Rest}
use Rattle.records.specs.Writing.{are_legal}
use Rattle.records.proofs.Ranges.{legal_at}
use Rattle.record_kinds.specs.Numbered.{kind_number}
use Rattle.record_kinds.specs.Kinds.{places}
use Rattle.records.proofs.record.are_in_ranges.Given as goal

abbrev pub invariant-loop-j : goal.invariant-loop-j
invariant-loop-j l = (l.j ≤ places) × Rest (legal_at (kind_number l.kind) l.fields) places l.j (are_legal (kind_number l.kind) l.fields)
