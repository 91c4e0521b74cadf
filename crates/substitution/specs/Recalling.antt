-- What the functions of a recall count on.
-- Assumes nothing.
use Rattle.std.specs.Prelude.{◌≡◌, true, List, ℕ, length}
use Rattle.book.specs.Layout.{book_length}
use Rattle.book.specs.State.{state}
use Rattle.record_kinds.specs.declared.Kind.TheVariants.{Recall}
use Rattle.records.specs.declared.record.Record.{Record}
use Rattle.rules.specs.Sound.{sound}
use Rattle.marking_laws.specs.Recalled.{Recallable}

-- a recall that all rules but the last let pass, on a sound book
pub record Recalling (book : List ℕ) (entry : Record) : Type 0 where
  pub long : length book ≡ book_length
  pub sound_book : sound (state book) ≡ true
  pub kind_is : entry.kind ≡ Recall
  pub recallable : Recallable (state book) entry.fields
