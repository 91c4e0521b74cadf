-- What the ranges of a recall's record are worth.
-- Assumes nothing.
use mathlib.Core.Path.{◌≡◌}
use mathlib.Core.Bool.{true}
use mathlib.Core.List.{List}
use Prim.Native.Nat.{ℕ, ◌≤◌}
use native.Mathlib.Omega.{arith}
use Rattle.record_kinds.specs.Kinds.{kinds}
use Rattle.records.specs.Writing.{are_legal}
use Rattle.rules.specs.Fields.{field}
use Rattle.facts.proofs.Ranges.{field_in_lem}

pub record RecallIn (r : List ℕ) : Type 0 where
  pub giver : field r 0 ≤ 31
  pub exposure : field r 1 ≤ 63
  pub security : field r 2 ≤ 63
  pub nominal_low : 1 ≤ field r 3
  pub nominal_high : field r 3 ≤ 4294967295

pub recall_in : (r : List ℕ) → are_legal 11 r ≡ true → RecallIn r
unfolding kinds
recall_in r h =
    record {
      giver = (field_in_lem 11 0 r h (omega arith)).1;
      exposure = (field_in_lem 11 1 r h (omega arith)).1;
      security = (field_in_lem 11 2 r h (omega arith)).1;
      nominal_low = (field_in_lem 11 3 r h (omega arith)).0;
      nominal_high = (field_in_lem 11 3 r h (omega arith)).1;
    }
