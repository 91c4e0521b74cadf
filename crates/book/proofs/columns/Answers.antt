-- `book::columns` meets its contract: each number of the columns is read from its place.
-- Assumes nothing.
use mathlib.Core.Path.{◌≡◌}
use Prim.Native.Nat.{◌+◌, ◌*◌, ◌/◌, ◌%◌}
use lib.ListN.{get_or}
use borrow.Author.Rules.{rules}
use Rattle.laws.specs.Numbers.{number_at}
use Rattle.book.specs.Layout.{security_tables}
use Rattle.book.specs.State.{state}
use Rattle.book.proofs.Filling.{filled_from_fn}
use Rattle.book.proofs.Securities.{column_read}
use Rattle.book.proofs.columns.Goals as goal

pub returns : goal.returns
returns c =
    filled_from_fn _ _ (λ k. state c.args.book.now (get_or security_tables (k / 64) 0) (k % 64)) 256
    (λ i y q l k. let e : y ≡ number_at c.args.book.now (12 + 4 * i) 4 = search rules in (search rules, column_read c.args.book.now i l e))
    c.from_fn.result c.from_fn.ensures.items
