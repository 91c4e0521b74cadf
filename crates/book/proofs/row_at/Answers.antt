-- `book::row_at` meets its contract: each number of the row is read from its place.
-- Assumes nothing.
use Prim.Native.Nat.{◌+◌}
use borrow.Author.Rules.{rules}
use Rattle.book.specs.State.{state}
use Rattle.book.specs.Tables.{number}
use Rattle.book.proofs.Filling.{filled_from_fn}
use Rattle.book.proofs.row_at.Goals as goal

pub returns : goal.returns
returns c =
    filled_from_fn _ _ (λ k. state c.args.book.now (number c.args.table) (c.args.start + k)) 64 (λ i y q l k. search rules) c.from_fn.result c.from_fn.ensures.items
