-- `desk::Desk::serve`: what holds between two pieces; the place leaves room for the lines of the reads that are left.
-- Assumes nothing.
use Rattle.std.proofs.Common.{◌+◌, ◌*◌, ◌≤◌, ◌<◌, length}
use Rattle.desk.specs.Streams.{Between}
use Rattle.desk.proofs.Desk.serve.Given as goal

abbrev pub invariant-loop-turn : goal.invariant-loop-turn
invariant-loop-turn g l =
    (l.self.place ≤ 1 + 512 * l._turn) × (length l.self.input < 65) × Between (g.R.Read.remaining l.fn.reader) (g.R.Read.remaining l.reader) (g.W.Write.contents l.fn.writer) (g.W.Write.contents l.writer) l.self.book l.self.input l.self.place
