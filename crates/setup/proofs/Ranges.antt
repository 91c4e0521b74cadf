-- What the ranges of a record are worth to the functions that take it.
-- Assumes nothing.
use mathlib.Core.Path.{◌≡◌}
use mathlib.Core.Bool.{true}
use mathlib.Core.List.{List}
use Prim.Native.Nat.{ℕ, ◌≤◌}
use native.Mathlib.Omega.{arith}
use lib.ListN.{get_or}
use Rattle.record_kinds.specs.Kinds.{kinds}
use Rattle.record_kinds.specs.Numbered.{kind_number}
use Rattle.record_kinds.specs.declared.Kind.{Kind}
use Rattle.record_kinds.specs.declared.Kind.TheVariants.{Opening, Price, Participant, Basket}
use Rattle.records.specs.Writing.{are_legal}
use Rattle.facts.proofs.Ranges.{field_in_lem}

-- the fields of each kind
pub record OpeningIn (r : List ℕ) : Type 0 where
  pub day : get_or r 0 0 ≤ 4294967295
  pub tolerance : get_or r 1 0 ≤ 100000000

pub record PriceIn (r : List ℕ) : Type 0 where
  pub security : get_or r 0 0 ≤ 63
  pub lot : get_or r 1 0 ≤ 1000000
  pub price : get_or r 2 0 ≤ 3000000
  pub haircut : get_or r 3 0 ≤ 9999
  pub quote : get_or r 4 0 ≤ 4294967295

pub record ParticipantIn (r : List ℕ) : Type 0 where
  pub participant : get_or r 0 0 ≤ 31
  pub mode : get_or r 1 0 ≤ 2
  pub givers : get_or r 2 0 ≤ 4294967295
  pub partial : get_or r 3 0 ≤ 1

pub record BasketIn (r : List ℕ) : Type 0 where
  pub basket : get_or r 0 0 ≤ 15
  pub securities : get_or r 1 0 ≤ 18446744073709551615
  pub age : get_or r 2 0 ≤ 255

module _ (r : List ℕ) where
  opening_case : are_legal 0 r ≡ true → OpeningIn r
  unfolding kinds
  opening_case h = record { day = (field_in_lem 0 0 r h (omega arith)).1; tolerance = (field_in_lem 0 1 r h (omega arith)).1 }

  price_case : are_legal 1 r ≡ true → PriceIn r
  unfolding kinds
  price_case h =
      record {
        security = (field_in_lem 1 0 r h (omega arith)).1;
        lot = (field_in_lem 1 1 r h (omega arith)).1;
        price = (field_in_lem 1 2 r h (omega arith)).1;
        haircut = (field_in_lem 1 3 r h (omega arith)).1;
        quote = (field_in_lem 1 4 r h (omega arith)).1;
      }

  participant_case : are_legal 2 r ≡ true → ParticipantIn r
  unfolding kinds
  participant_case h =
      record {
        participant = (field_in_lem 2 0 r h (omega arith)).1;
        mode = (field_in_lem 2 1 r h (omega arith)).1;
        givers = (field_in_lem 2 2 r h (omega arith)).1;
        partial = (field_in_lem 2 3 r h (omega arith)).1;
      }

  basket_case : are_legal 3 r ≡ true → BasketIn r
  unfolding kinds
  basket_case h = record { basket = (field_in_lem 3 0 r h (omega arith)).1; securities = (field_in_lem 3 1 r h (omega arith)).1; age = (field_in_lem 3 2 r h (omega arith)).1 }

  -- by the kind's name
  module _ {kind : Kind} where
    pub opening_in : kind ≡ Opening → are_legal (kind_number kind) r ≡ true → OpeningIn r
    opening_in k legal = opening_case (rw k at legal)

    pub price_in_lem : kind ≡ Price → are_legal (kind_number kind) r ≡ true → PriceIn r
    price_in_lem k legal = price_case (rw k at legal)

    pub participant_in_lem : kind ≡ Participant → are_legal (kind_number kind) r ≡ true → ParticipantIn r
    participant_in_lem k legal = participant_case (rw k at legal)

    pub basket_in_lem : kind ≡ Basket → are_legal (kind_number kind) r ≡ true → BasketIn r
    basket_in_lem k legal = basket_case (rw k at legal)
