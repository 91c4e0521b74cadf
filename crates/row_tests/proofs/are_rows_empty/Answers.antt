-- `row_tests::are_rows_empty` meets its contract.
-- Assumes nothing.
use Prim.Native.Nat.{◌+◌, ◌*◌, ◌≤◌}
use native.Mathlib.Omega.{arith}
use Rattle.book.specs.Layout.{book_length}
use Rattle.book.proofs.Named.{number_known}
use Rattle.row_tests.proofs.Empty.{rows_empty, rows_end}
use Rattle.row_tests.proofs.are_rows_empty.Goals as goal
use Rattle.row_tests.proofs.are_rows_empty.Goals.{After-base_of}

inside : (c : After-base_of) → c.base_of.result + c.width_of-width.result * c.args.start + c.width_of-width.result * c.args.n ≤ book_length
inside c = search (rows_end, number_known)

pub overflow_mul-from : goal.overflow_mul-from
overflow_mul-from c = omega (arith, inside c)

pub overflow_add-from : goal.overflow_add-from
overflow_add-from c = omega (arith, inside c)

pub overflow_mul-to : goal.overflow_mul-to
overflow_mul-to c = omega (arith, inside c)

pub overflow_add-to : goal.overflow_add-to
overflow_add-to c = omega (arith, inside c)

pub slice_bounds-are_empty-end : goal.slice_bounds-are_empty-end
slice_bounds-are_empty-end c = omega (arith, inside (goal.at.slice_bounds-are_empty-end c).After-base_of)

pub returns : goal.returns
returns c = search (rows_empty, number_known)
