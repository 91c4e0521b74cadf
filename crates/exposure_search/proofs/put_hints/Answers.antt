-- `exposure_search::put_hints` meets its contract: the hints are those of the exposures below `e`.
-- Assumes nothing.
use mathlib.Core.Path.{◌≡◌}
use native.Mathlib.Omega.{arith}
use Rattle.exposure_search.proofs.Hints.{none_put, one_more_put}
use Rattle.exposure_search.proofs.put_hints.Goals as goal

pub loop-e-init : goal.loop-e-init
loop-e-init c = (omega arith, search none_put)

pub loop-e-preserved : goal.loop-e-preserved
loop-e-preserved c = (omega arith, search one_more_put)

pub returns : goal.returns
returns c =
    let l = c.loop-e in
    let e : l.e ≡ 64 = omega arith in
    rw e at l.invariant.1
