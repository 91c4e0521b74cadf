-- `parcels::nominal_to_keep` meets its contract.
-- Assumes nothing.
use Prim.Native.Nat.{◌-◌}
use borrow.Author.Tests.{le-leb, lt-leb}
use Rattle.valuation.proofs.Inverse.{within_le}
use Rattle.parcels.specs.Spare.{nominal_to_keep}
use native.Mathlib.Omega.{arith}
use Rattle.parcels.proofs.nominal_to_keep.Goals as goal

pub returns-then-exposure-others : goal.returns-then-exposure-others
unfolding nominal_to_keep
returns-then-exposure-others c = rw (le-leb c.args.exposure c.args.others c.if-exposure-others.true)

pub overflow_add-result : goal.overflow_add-result
overflow_add-result c = omega (arith, c.nominal_within.ensures, within_le c.args.pricing (c.args.exposure - c.args.others - 1))

pub returns : goal.returns
unfolding nominal_to_keep
returns c =
    let a = c.args in
    rw (lt-leb a.exposure a.others c.if-exposure-others.false, c.nominal_within.ensures)
