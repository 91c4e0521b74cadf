-- `book::lower` meets its contract: the row is changed as a part, and stands in the book again.
-- Assumes nothing.
use mathlib.Core.Path.{◌≡◌}
use Prim.Native.Nat.{◌+◌, ◌-◌}
use lib.ListN.{get_or}
use Rattle.book.specs.State.{state}
use native.Mathlib.Omega.{arith}
use borrow.Author.Rules.{rules}
use Rattle.book.specs.Tables.{number}
use Rattle.book.proofs.Named.{number_known}
use Rattle.book.proofs.Rows.{lent_changeable, lent_changed, row_small}
use Rattle.book.proofs.lower.Goals as goal

pub change_row-requires : goal.change_row-requires
change_row-requires c =
    lent_changeable c.args.book.now (number c.args.table) c.args.start (omega arith) (number_known c.args.table) c.requires.0 c.requires.1 c.row_place-a.ensures.0 c.args.by.now c.row_place-a.ensures.1
    (λ i h κ p e r. omega (arith, c.requires.2.enough i h))
    (λ i h y t. let e : y ≡ state c.args.book.now (number c.args.table) (c.args.start + i) - get_or c.args.by.now i 0 = search rules in omega (arith, e, row_small c.args.book.now (number c.args.table) c.args.start (omega arith) (number_known c.args.table) c.requires.0 c.requires.1 c.fits-book i h))

pub returns : goal.returns
returns c =
    lent_changed c.args.book.now (number c.args.table) c.args.start (omega arith) (number_known c.args.table) c.requires.0 c.requires.1 c.row_place-a.ensures.0 ◌-◌ c.args.by.now c.change_row.new.row
    (λ i h y t. search rules) c.change_row.ensures
