-- `book::set` meets its contract, in tables of four bytes a row and of eight.
-- Assumes nothing.
use Prim.Native.Nat.{◌+◌, ◌*◌, ◌≤◌}
use mathlib.Core.Path.{◌≡◌}
use native.Mathlib.Omega.{arith}
use Rattle.book.specs.Layout.{width_of, book_length}
use Rattle.book.specs.Tables.{number}
use Rattle.book.proofs.Places.{width_is, width_else, cell_inside}
use Rattle.book.proofs.Cells.{cell_written}
use Rattle.book.proofs.set.Goals as goal
use Rattle.book.proofs.set.Goals.{Else-w-eq4, Then-w-eq4}

four : (c : Then-w-eq4) → 4 ≡ width_of (number c.args.table)
four c = width_is (number c.args.table) c.width_of-w.ensures c.if-w-eq4.true

four-inside : (c : Then-w-eq4) → c.base_of-at.result + 4 * c.args.i + 4 ≤ book_length
four-inside c =
    cell_inside (number c.args.table) c.args.i c.requires.0 c.base_of-at.ensures (four c)

eight : (c : Else-w-eq4) → 8 ≡ width_of (number c.args.table)
eight c =
    width_else (number c.args.table) c.args.i c.requires.0 c.width_of-w.ensures c.if-w-eq4.false

eight-inside : (c : Else-w-eq4) → c.base_of-at.result + 8 * c.args.i + 8 ≤ book_length
eight-inside c =
    cell_inside (number c.args.table) c.args.i c.requires.0 c.base_of-at.ensures (eight c)

pub overflow_mul-i : goal.overflow_mul-i
overflow_mul-i c = omega (arith, four-inside (goal.at.overflow_mul-i c).Then-w-eq4)

pub overflow_add-at : goal.overflow_add-at
overflow_add-at c = omega (arith, four-inside (goal.at.overflow_add-at c).Then-w-eq4)

pub put_number-requires : goal.put_number-requires
put_number-requires c = (omega arith, omega (arith, four-inside (goal.at.put_number-requires c).Then-w-eq4))

pub overflow_mul-i-else-w-eq4 : goal.overflow_mul-i-else-w-eq4
overflow_mul-i-else-w-eq4 c = omega (arith, eight-inside (goal.at.overflow_mul-i-else-w-eq4 c).Else-w-eq4)

pub overflow_add-at-else-w-eq4 : goal.overflow_add-at-else-w-eq4
overflow_add-at-else-w-eq4 c = omega (arith, eight-inside (goal.at.overflow_add-at-else-w-eq4 c).Else-w-eq4)

pub put_number-requires-else-w-eq4 : goal.put_number-requires-else-w-eq4
put_number-requires-else-w-eq4 c = (omega arith, omega (arith, eight-inside (goal.at.put_number-requires-else-w-eq4 c).Else-w-eq4))

pub returns-then-w-eq4 : goal.returns-then-w-eq4
returns-then-w-eq4 c =
    cell_written c.args.book.now c.put_number.new.part (number c.args.table) c.args.i c.args.x (omega arith) c.requires.0 c.requires.1 c.base_of-at.ensures (four (goal.at.returns-then-w-eq4 c).Then-w-eq4) c.put_number.ensures

pub returns-else-w-eq4 : goal.returns-else-w-eq4
returns-else-w-eq4 c =
    cell_written c.args.book.now c.put_number-else-w-eq4.new.part (number c.args.table) c.args.i c.args.x (omega arith) c.requires.0 c.requires.1 c.base_of-at.ensures (eight (goal.at.returns-else-w-eq4 c).Else-w-eq4) c.put_number-else-w-eq4.ensures
