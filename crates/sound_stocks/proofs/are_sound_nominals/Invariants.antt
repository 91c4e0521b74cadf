-- `sound_stocks::are_sound_nominals` meets its contract: the nominals below `4 * k` are added.
-- Assumes nothing.
use Prim.Native.Nat.{◌*◌, ◌≤◌}
use Rattle.book.specs.State.{state}
use Rattle.sound_stocks.specs.Stocks.{Adding}
use Rattle.sound_stocks.proofs.are_sound_nominals.Given as goal

abbrev pub invariant-loop-k : goal.invariant-loop-k
invariant-loop-k l = (l.k ≤ 16) × Adding (state l.book) l.p l.e (4 * l.k) l.held
