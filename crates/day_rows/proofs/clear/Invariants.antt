-- `day_rows::clear` meets its contract: the tables from `table-index` on are still to come.
-- Assumes nothing.
use mathlib.Core.Path.{◌≡◌}
use lib.ListN.{drop}
use Rattle.book.specs.State.{state, clear_row}
use Rattle.book.specs.Tables.{numbers_of}
use Rattle.day_rows.proofs.clear.Given as goal

abbrev pub invariant-loop-table : goal.invariant-loop-table
invariant-loop-table l = clear_row (state l.book) (numbers_of (drop l.table-index l.tables)) l.i ≡ clear_row (state l.initial.book) (numbers_of l.tables) l.i
