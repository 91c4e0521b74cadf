-- `substitution::position_left` meets its contract.
-- Assumes nothing.
use native.Mathlib.Omega.{arith}
use Rattle.substitution.proofs.Accepting.{exposure_in, security_in, position_enough}
use Rattle.substitution.proofs.position_left.Goals as goal

pub overflow_mul-record : goal.overflow_mul-record
overflow_mul-record c = omega (arith, exposure_in c.requires)

pub row_at-position-requires : goal.row_at-position-requires
row_at-position-requires c = omega (arith, exposure_in c.requires)

pub offset_bounds-position-i : goal.offset_bounds-position-i
offset_bounds-position-i c = omega (arith, security_in c.requires)

pub bounds-position-i : goal.bounds-position-i
bounds-position-i c = omega (arith, security_in c.requires)

pub overflow_sub-position : goal.overflow_sub-position
overflow_sub-position c = omega (arith, position_enough c.requires c.row_at-position.ensures)

pub bounds-position-i-2 : goal.bounds-position-i-2
bounds-position-i-2 c = omega (arith, security_in c.requires)
