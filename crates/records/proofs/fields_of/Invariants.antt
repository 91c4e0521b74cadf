-- `records::fields_of` meets its contract: the places below j are filled.
-- Assumes nothing.
use mathlib.Core.Path.{◌≡◌}
use Prim.Native.Nat.{◌≤◌}
use Rattle.laws.specs.Filled.{filled}
use Rattle.record_kinds.specs.Numbered.{kind_number}
use Rattle.record_kinds.specs.Kinds.{places, offset_of}
use Rattle.records.specs.Reading.{field_in}
use Rattle.records.proofs.fields_of.Given as goal

abbrev pub invariant-loop-j : goal.invariant-loop-j
invariant-loop-j l = (l.j ≤ places) × (l.at ≡ offset_of (kind_number l.kind) l.j) × (l.fields ≡ filled (field_in l.bytes (kind_number l.kind)) places l.j)
