-- A row that each of some tables has.
-- Assumes nothing.
use Rattle.std.specs.Prelude.{ℕ, ◌<◌, List}
use Rattle.std.specs.List.{All}
use Rattle.book.specs.Layout.{rows_of}
use Rattle.book.specs.Tables.{number}
use Rattle.book.specs.declared.layout.Table.{Table}

-- each of some tables has a row i
abbrev pub HaveRow : ℕ → List Table → Type 0
HaveRow i tables = All (λ (t : Table). i < rows_of (number t)) tables
