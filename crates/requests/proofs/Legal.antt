-- What the ranges of a record are worth to the functions that take it.
-- Assumes nothing.
use mathlib.Core.Path.{◌≡◌}
use mathlib.Core.Bool.{true}
use mathlib.Core.List.{List}
use Prim.Native.Nat.{ℕ, ◌≤◌, ◌<◌}
use native.Mathlib.Omega.{arith}
use lib.ListN.{get_or}
use Rattle.record_kinds.specs.Kinds.{kinds}
use Rattle.record_kinds.specs.Numbered.{kind_number}
use Rattle.record_kinds.specs.declared.Kind.{Kind}
use Rattle.record_kinds.specs.declared.Kind.TheVariants.{Fop, Return, Cancel}
use Rattle.records.specs.Writing.{are_legal}
use Rattle.rules.specs.Fields.{basket_or_exposure_in}
use Rattle.facts.proofs.Ranges.{field_in_lem}
use Rattle.request_search.specs.Ranges.{RequestIn}
use Rattle.request_rows.specs.Rows.{EntryIn}

module _ (r : List ℕ) where
  fop_in_lem : are_legal 6 r ≡ true → EntryIn 6 r
  unfolding kinds
  fop_in_lem h =
      let basket : get_or r 3 0 ≤ 15 = (field_in_lem 6 3 r h (omega arith)).1 in
      record {
        kind_low = omega arith;
        kind_high = omega arith;
        fields = record {
          side = (field_in_lem 6 0 r h (omega arith)).1;
          giver = (field_in_lem 6 1 r h (omega arith)).1;
          taker = (field_in_lem 6 2 r h (omega arith)).1;
          object = omega arith;
          amount = (field_in_lem 6 4 r h (omega arith)).1;
          settlement = (field_in_lem 6 5 r h (omega arith)).1;
        };
        closing = (field_in_lem 6 6 r h (omega arith)).1;
        reference = (field_in_lem 6 7 r h (omega arith)).1;
      }

  basket_lem : are_legal 6 r ≡ true → basket_or_exposure_in r < 16
  unfolding kinds
  basket_lem h = omega (arith, (field_in_lem 6 3 r h (omega arith)).1)

  return_in_lem : are_legal 7 r ≡ true → EntryIn 7 r
  unfolding kinds
  return_in_lem h =
      record {
        kind_low = omega arith;
        kind_high = omega arith;
        fields = record {
          side = (field_in_lem 7 0 r h (omega arith)).1;
          giver = (field_in_lem 7 1 r h (omega arith)).1;
          taker = (field_in_lem 7 2 r h (omega arith)).1;
          object = (field_in_lem 7 3 r h (omega arith)).1;
          amount = (field_in_lem 7 4 r h (omega arith)).1;
          settlement = (field_in_lem 7 5 r h (omega arith)).1;
        };
        closing = omega arith;
        reference = (field_in_lem 7 6 r h (omega arith)).1;
      }

  owner_lem : are_legal 8 r ≡ true → get_or r 0 0 < 32
  unfolding kinds
  owner_lem h = omega (arith, (field_in_lem 8 0 r h (omega arith)).1)

  -- by the kind's name
  module _ {kind : Kind} where
    module _ (k : kind ≡ Fop) (legal : are_legal (kind_number kind) r ≡ true) where
      pub fop_entry : EntryIn (kind_number kind) r
      fop_entry = rw k (fop_in_lem (rw k at legal))

      pub fop_fields : RequestIn r
      fop_fields = fop_entry.fields

      pub basket_below : basket_or_exposure_in r < 16
      basket_below = basket_lem (rw k at legal)

    module _ (k : kind ≡ Return) (legal : are_legal (kind_number kind) r ≡ true) where
      pub return_entry : EntryIn (kind_number kind) r
      return_entry = rw k (return_in_lem (rw k at legal))

      pub return_fields : RequestIn r
      return_fields = return_entry.fields

    pub owner_below : kind ≡ Cancel → are_legal (kind_number kind) r ≡ true → get_or r 0 0 < 32
    owner_below k legal = owner_lem (rw k at legal)
