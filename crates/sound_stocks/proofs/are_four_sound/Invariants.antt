-- `sound_stocks::are_four_sound` meets its contract: the nominals below `i` are added.
-- Assumes nothing.
use Prim.Native.Nat.{◌+◌, ◌*◌, ◌≤◌, ◌<◌}
use mathlib.Core.Path.{◌≡◌}
use Rattle.book.specs.State.{state}
use Rattle.sound_stocks.specs.Stocks.{Adding}
use Rattle.sound_stocks.proofs.are_four_sound.Given as goal

abbrev pub invariant-loop-i : goal.invariant-loop-i
invariant-loop-i l = (l.end ≡ 4 * l.k + 4) × (l.k < 16) × (l.i ≤ l.end) × Adding (state l.book) l.p l.e l.i l.held
