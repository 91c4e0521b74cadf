-- What the ranges of a record are worth to the functions that take it.
-- Assumes nothing.
use mathlib.Core.Path.{◌≡◌}
use mathlib.Core.Bool.{Bool, true, false, cond}
use mathlib.Core.List.{List}
use Prim.Native.Nat.{ℕ, ◌+◌, ◌*◌, ◌≤◌, ◌<◌}
use native.Mathlib.Omega.{arith}
use lib.ListN.{length, get_or}
use Rattle.laws.specs.Sum.{sum}
use Rattle.laws.proofs.Sum.{sum_le}
use Rattle.rules.specs.Stock.{position_from}
use Rattle.book.specs.Layout.{book_length, accounts, positions}
use Rattle.book.specs.State.{state}
use Rattle.book.proofs.Images.{state_fits}
use Rattle.record_kinds.specs.Kinds.{kinds}
use Rattle.record_kinds.specs.Numbered.{kind_number}
use Rattle.record_kinds.specs.declared.Kind.{Kind}
use Rattle.record_kinds.specs.declared.Kind.TheVariants.{Deposit, Withdrawal}
use Rattle.records.specs.Writing.{are_legal}
use Rattle.facts.proofs.Ranges.{field_in_lem}

-- the fields of both kinds
pub record AccountIn (r : List ℕ) : Type 0 where
  pub participant : get_or r 0 0 ≤ 31
  pub security : get_or r 1 0 ≤ 63
  pub nominal : get_or r 2 0 ≤ 500000000

module _ (r : List ℕ) where
  deposit_case : are_legal 4 r ≡ true → AccountIn r
  unfolding kinds
  deposit_case h = record { participant = (field_in_lem 4 0 r h (omega arith)).1; security = (field_in_lem 4 1 r h (omega arith)).1; nominal = (field_in_lem 4 2 r h (omega arith)).1 }

  withdrawal_case : are_legal 5 r ≡ true → AccountIn r
  unfolding kinds
  withdrawal_case h = record { participant = (field_in_lem 5 0 r h (omega arith)).1; security = (field_in_lem 5 1 r h (omega arith)).1; nominal = (field_in_lem 5 2 r h (omega arith)).1 }

  -- by the kind's name
  module _ {kind : Kind} where
    pub deposit_in : kind ≡ Deposit → are_legal (kind_number kind) r ≡ true → AccountIn r
    deposit_in k legal = deposit_case (rw k at legal)

    pub withdrawal_in : kind ≡ Withdrawal → are_legal (kind_number kind) r ≡ true → AccountIn r
    withdrawal_in k legal = withdrawal_case (rw k at legal)

-- a number of an account or a position fits its four bytes
module _ (b : List ℕ) (long : length b ≡ book_length) (small : (i : ℕ) → get_or b i 0 < 256) where
  pub account_small : (k : ℕ) → k < 2048 → state b accounts k < 4294967296
  account_small k h = (state_fits b long small).fits accounts k h

  pub position_small : (k : ℕ) → k < 4096 → state b positions k < 4294967296
  position_small k h = (state_fits b long small).fits positions k h

  -- so do the positions from a participant's exposures
  position_le : (p i e : ℕ) → i < 64 → e < 64 → position_from (state b) p i e ≤ 4294967295
  position_le p i e h l = chosen _ (omega (arith, position_small (64 * e + i) (omega arith)))
    where
      chosen : (t : Bool) → state b positions (64 * e + i) ≤ 4294967295 → cond t (state b positions (64 * e + i)) 0 ≤ 4294967295
      chosen true h = h
      chosen false h = omega arith

  pub placed_le : (p i : ℕ) → i < 64 → sum (position_from (state b) p i) 64 ≤ 4294967295 * 64
  placed_le p i h = sum_le (position_from (state b) p i) 4294967295 64 (λ e l. position_le p i e h l)
