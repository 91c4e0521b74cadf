-- The test of ranges, number by number.
-- Assumes nothing.
use mathlib.Core.Path.{refl}
use mathlib.Core.Bool.{Bool}
use mathlib.Core.List.{List}
use Prim.Native.Nat.{ℕ}
use lib.ListN.{get_or}
use Rattle.laws.proofs.Least.{Rest}
use Rattle.record_kinds.specs.Kinds.{places, in_range}
use Rattle.records.specs.Writing.{are_legal}

-- the number at j is in its range
abbrev pub legal_at : ℕ → List ℕ → ℕ → Bool
legal_at k fields j = in_range k j (get_or fields j 0)

-- all are still to be tested
pub ranges_first : (k : ℕ) (fields : List ℕ) → Rest (legal_at k fields) places 0 (are_legal k fields)
ranges_first k fields = record { decides = refl }
