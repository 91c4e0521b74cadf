-- "What it takes is legal": a record that the reader accepts has a known kind, and its fields are in their ranges.
-- Assumes nothing.
use mathlib.Core.Path.{◌≡◌, refl, sym, subst}
use mathlib.Core.Bool.{true}
use mathlib.Core.List.{List}
use Prim.Native.Nat.{ℕ, ◌<◌}
use lib.ListN.{get_or}
use Rattle.record_kinds.specs.Typed.{kind_count}
use Rattle.records.specs.Reading.{read}
use Rattle.records.specs.Writing.{are_legal}
use Rattle.records.specs.declared.Reading as declared
use Rattle.records.proofs.RoundTrip.{formed, numbers_legal, is_taken}

-- a reading of a first byte, as a record that was taken
pub record Taken (first : ℕ) (r : declared.Reading) : Type 0 where
  pub first_byte : r.kind ≡ first
  pub known_kind : r.kind < kind_count
  pub legal : are_legal r.kind r.fields ≡ true

pub reading_taken : (b : List ℕ) → (read b).code ≡ 0 → Taken (get_or b 0 0) (read b)
reading_taken b code =
    subst (Taken (get_or b 0 0)) (is_taken b code)
    (record { first_byte = refl; known_kind = (formed b code).0; legal = sym (numbers_legal b code) })
