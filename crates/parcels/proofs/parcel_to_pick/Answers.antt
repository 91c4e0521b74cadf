-- `parcels::parcel_to_pick` meets its contract: one division finds the count.
-- Assumes nothing.
use native.Mathlib.Omega.{arith}
use Rattle.parcels.proofs.Parcels.{pick_none, pick_too_few, pick_too_dear, pick_all, pick_most}
use Rattle.parcels.proofs.parcel_to_pick.Goals as goal
use Rattle.parcels.proofs.parcel_to_pick.Goals.{then-lot-eq0-via-then-lot-eq0, then-lot-eq0-via-else-lot-eq0+then-account-lot, then-lot-eq0-via-else-lot-eq0+else-account-lot+then-remains-value_of}

pub returns-then-lot-eq0 : goal.returns-then-lot-eq0
returns-then-lot-eq0 c = elim c.then-lot-eq0.branch [
  | then-lot-eq0-via-then-lot-eq0 w ↦ search pick_none
  | then-lot-eq0-via-else-lot-eq0+then-account-lot w ↦ search pick_too_few
  | then-lot-eq0-via-else-lot-eq0+else-account-lot+then-remains-value_of w ↦ search pick_too_dear
]

pub value_of-worth-requires : goal.value_of-worth-requires
value_of-worth-requires c = (omega (arith, c.whole_lots-all.ensures.1), c.requires.1.bounded)

pub returns-then-worth-remains : goal.returns-then-worth-remains
returns-then-worth-remains c = search pick_all

pub nominal_within-requires : goal.nominal_within-requires
nominal_within-requires c =
    (c.requires.1.priced (omega arith), c.requires.1.bounded)

pub value_of-requires-2 : goal.value_of-requires-2
value_of-requires-2 c = (omega (arith, c.whole_lots-nominal.ensures.1, c.min-most.ensures), c.requires.1.bounded)

pub returns : goal.returns
returns c = search pick_most
