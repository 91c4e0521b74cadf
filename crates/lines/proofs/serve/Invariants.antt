-- `lines::serve`: what holds between two records.
-- Assumes nothing.
use Rattle.std.proofs.Common.{length, ◌-◌}
use Rattle.lines.proofs.Serving.{Walk}
use Rattle.lines.proofs.serve.Given as goal

abbrev pub invariant-loop-served : goal.invariant-loop-served
invariant-loop-served l = Walk l.piece l.initial.book l.initial.lines l.place l.book l.lines l.p.place l.p.taken l.p.waiting

abbrev pub decreases-loop-served : goal.decreases-loop-served
decreases-loop-served l = length l.piece - l.p.taken
