-- `replay::run` meets its contract: what is done so far is the calls so far.
-- Assumes nothing.
use Prim.Native.Nat.{◌-◌}
use lib.ListN.{length}
use Rattle.replay.proofs.Stream.{Walk}
use Rattle.replay.proofs.run.Given as goal

abbrev pub invariant-loop-k : goal.invariant-loop-k
invariant-loop-k l = Walk (length l.initial.codes) l.calls l.bytes l.initial.book l.book l.initial.codes l.codes l.k l.at
