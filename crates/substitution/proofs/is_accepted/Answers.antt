-- `substitution::is_accepted` meets its contract.
-- Assumes nothing.
use native.Mathlib.Omega.{arith}
use Rattle.book.specs.State.{state}
use Rattle.substitution.proofs.Accepting.{exposure_in, bounded_in, row_within_in, tolerance_in, accepted_above, accepted_else}
use Rattle.substitution.proofs.is_accepted.Goals as goal

pub get-requires : goal.get-requires
get-requires c = exposure_in c.requires

pub overflow_add-after : goal.overflow_add-after
overflow_add-after c = omega (arith, c.value_after-after.ensures.1, tolerance_in c.requires c.get-2.ensures)

pub returns-then-get-after : goal.returns-then-get-after
returns-then-get-after c =
    accepted_above (state c.args.book.now) c.args.record.now.fields c.value_after-after.ensures.0 c.get.ensures c.get-2.ensures c.if-get-after.true

pub overflow_mul-e : goal.overflow_mul-e
overflow_mul-e c = omega (arith, exposure_in c.requires)

pub row_at-position-requires : goal.row_at-position-requires
row_at-position-requires c = omega (arith, exposure_in c.requires)

pub worth_of-requires : goal.worth_of-requires
worth_of-requires c =
    let k = c.requires in
    (bounded_in k c.columns-columns.ensures, row_within_in k c.row_at-position.ensures)

pub returns : goal.returns
returns c =
    accepted_else (state c.args.book.now) c.args.record.now.fields c.value_after-after.ensures.0 c.get.ensures c.get-2.ensures c.if-get-after.false c.columns-columns.ensures c.row_at-position.ensures
    c.worth_of.ensures
