-- `records::put_fields` meets its contract: up to the field j the part is the record.
-- Assumes nothing.
use mathlib.Core.Path.{◌≡◌}
use mathlib.Core.List.{◌++◌}
use Prim.Native.Nat.{◌≤◌}
use lib.ListN.{length, drop}
use Rattle.record_kinds.specs.Numbered.{kind_number}
use Rattle.record_kinds.specs.Kinds.{places, offset_of, length_of}
use Rattle.records.specs.Writing.{record_bytes_to}
use Rattle.records.proofs.put_fields.Given as goal

abbrev pub invariant-loop-j : goal.invariant-loop-j
invariant-loop-j l = (l.j ≤ places) × (l.at ≡ offset_of (kind_number l.kind) l.j) × (length l.part ≡ length_of (kind_number l.kind)) × (l.part ≡ record_bytes_to (kind_number l.kind) l.fields l.j ++ drop l.at l.fn.part)
