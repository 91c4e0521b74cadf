-- What the ranges of a legal record say of its numbers.
-- Assumes nothing.
use mathlib.Core.Path.{◌≡◌}
use mathlib.Core.Bool.{true}
use mathlib.Core.List.{List}
use Prim.Native.Nat.{ℕ, ◌<◌}
use native.Mathlib.Omega.{arith}
use lib.ListN.{get_or}
use Rattle.laws.proofs.Least.{all_at}
use Rattle.record_kinds.specs.Kinds.{places, field_of}
use Rattle.records.specs.Writing.{are_legal}
use Rattle.records.proofs.Ranges.{legal_at}
use Rattle.facts.proofs.Truth.{Between, between_facts}

-- a number of a record is in the range of its field
pub field_in_lem : (k j : ℕ) (r : List ℕ) → are_legal k r ≡ true → j < places → Between (field_of k j).least (field_of k j).greatest (get_or r j 0)
field_in_lem k j r h l = between_facts (field_of k j).least (field_of k j).greatest (get_or r j 0) (all_at (legal_at k r) places 0 h j (omega arith) (omega arith))
