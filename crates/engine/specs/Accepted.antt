-- What the parts of the exported call count on. That a record is of a kind and in its ranges is in its type.
-- Assumes nothing.
use Rattle.std.specs.Prelude.{◌≡◌, true, List, ℕ}
use Rattle.book.specs.State.{state}
use Rattle.record_kinds.specs.Numbered.{kind_number}
use Rattle.record_kinds.specs.declared.Kind.{Kind}
use Rattle.record_kinds.specs.declared.Kind.TheVariants.{Opening}
use Rattle.rules.specs.Codes.{code_of}
use Rattle.rules.specs.Sound.{sound}

-- a record that was read, on a book that is sound where the record is no opening
pub record Taken (b : List ℕ) (k : Kind) : Type 0 where
  pub sound_book : (k ≡ Opening → ⊥) → sound (state b) ≡ true

-- one that no rule refuses
pub record Accepted (b : List ℕ) (k : Kind) (r : List ℕ) : Type 0 where
  pub taken : Taken b k
  pub no_rule : code_of (state b) (kind_number k) r ≡ 0
