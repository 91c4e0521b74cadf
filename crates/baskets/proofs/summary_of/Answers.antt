-- `baskets::summary_of` meets its contract: the processor's counts are those of the bits.
-- Assumes nothing.
use native.Mathlib.Omega.{arith}
use Rattle.laws.proofs.Bits.{ones_map, trailing_map}
use Rattle.baskets.proofs.summary_of.Goals as goal

pub returns : goal.returns
returns c =
    let m = c.args.map in
    rw (c.from.ensures, c.from-2.ensures, ones_map m (omega arith), trailing_map m)
