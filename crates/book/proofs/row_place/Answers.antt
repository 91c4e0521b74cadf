-- `book::row_place` meets its contract.
-- Assumes nothing.
use Prim.Native.Nat.{◌+◌, ◌*◌, ◌≤◌}
use native.Mathlib.Omega.{arith}
use Rattle.book.specs.Layout.{book_length}
use Rattle.book.proofs.Named.{number_known}
use Rattle.book.proofs.Places.{rows_inside}
use Rattle.book.proofs.row_place.Goals as goal
use Rattle.book.proofs.row_place.Goals.{After-base_of}

inside : (c : After-base_of) → c.base_of.result + 4 * c.args.start + 256 ≤ book_length
inside c = search (rows_inside, number_known)

pub overflow_mul-result : goal.overflow_mul-result
overflow_mul-result c = omega (arith, inside c)

pub overflow_add-result : goal.overflow_add-result
overflow_add-result c = omega (arith, inside c)

pub returns : goal.returns
returns c = (omega arith, inside c)
