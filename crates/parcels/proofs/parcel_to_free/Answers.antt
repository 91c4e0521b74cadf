-- `parcels::parcel_to_free` meets its contract: one division finds the count.
-- Assumes nothing.
use Prim.Native.Nat.{◌-◌, ◌≤◌}
use native.Mathlib.Omega.{arith}
use Rattle.valuation.proofs.Laws.{value_mono}
use Rattle.parcels.proofs.Parcels.{free_none, free_too_few, free_kept, free_no_lot, free_most}
use Rattle.parcels.proofs.parcel_to_free.Goals as goal
use Rattle.parcels.proofs.parcel_to_free.Goals.{then-lot-eq0-via-then-lot-eq0, then-lot-eq0-via-else-lot-eq0+then-nominal-lot}

pub returns-then-lot-eq0 : goal.returns-then-lot-eq0
returns-then-lot-eq0 c = elim c.then-lot-eq0.branch [
  | then-lot-eq0-via-then-lot-eq0 w ↦ search free_none
  | then-lot-eq0-via-else-lot-eq0+then-nominal-lot w ↦ search free_too_few
]

pub nominal_to_keep-keep-requires : goal.nominal_to_keep-keep-requires
nominal_to_keep-keep-requires c =
    (c.requires.2.priced (omega arith), c.requires.2.bounded)

pub returns-then-nominal-keep : goal.returns-then-nominal-keep
returns-then-nominal-keep c = search free_kept

pub returns-then-given-eq0 : goal.returns-then-given-eq0
returns-then-given-eq0 c = search free_no_lot

pub overflow_sub-result : goal.overflow_sub-result
overflow_sub-result c =
    let less : c.args.nominal - c.whole_lots-given.result ≤ c.args.nominal = omega arith in
    rw (c.value_of-left.ensures, c.value_of-held.ensures) (value_mono c.args.s.pricing less)

pub returns : goal.returns
returns c = search free_most
