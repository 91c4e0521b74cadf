-- The numbers of a record, read one after the other.
-- Assumes nothing.
use mathlib.Core.Path.{◌≡◌}
use mathlib.Core.List.{List}
use Prim.Native.Nat.{ℕ, ◌+◌}
use lib.ListN.{set}
use Rattle.laws.specs.Filled.{filled}
use Rattle.laws.specs.Numbers.{number_at}
use Rattle.laws.proofs.Filled.{filled_next}
use Rattle.record_kinds.specs.Kinds.{places, field_of, offset_of}
use Rattle.record_kinds.specs.declared.Field.{Field}
use Rattle.records.specs.Reading.{field_in}

pub places_next : (b : List ℕ) (k j at : ℕ) (fields : List ℕ) {f : Field} {x : ℕ} → at ≡ offset_of k j → f ≡ field_of k j → x ≡ number_at b at f.bytes → fields ≡ filled (field_in b k) places j → set fields j x ≡ filled (field_in b k) places (j + 1)
unfolding field_in
places_next b k j at fields here it e = filled_next (field_in b k) places j fields (rw (here, it) at e)
