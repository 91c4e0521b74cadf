-- `replay::run` meets its contract: what is done so far is the calls so far.
-- Assumes nothing.
use mathlib.Core.Path.{◌≡◌}
use native.Mathlib.Omega.{arith}
use Rattle.replay.proofs.Stream.{walk_goes_on, walk_done}
use Rattle.replay.proofs.run.Goals as goal

pub loop-k-preserved : goal.loop-k-preserved
loop-k-preserved c =
    let l = c.loop-k in
    let one = c.run_one-done in
    walk_goes_on l.invariant (omega arith) (omega arith) (omega arith) one.auto.book one.ensures

pub returns : goal.returns
returns c =
    let e : c.min-n.result ≡ c.loop-k.k = omega arith in
    rw e (walk_done c.loop-k.invariant (omega arith))
