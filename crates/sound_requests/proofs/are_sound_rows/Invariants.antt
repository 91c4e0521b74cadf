-- `sound_requests::are_sound_rows` meets its contract: those below `16 * k` passed.
-- Assumes nothing.
use Prim.Native.Nat.{◌*◌, ◌≤◌}
use Rattle.laws.specs.Search.{all}
use Rattle.laws.proofs.Least.{Rest}
use Rattle.book.specs.State.{state}
use Rattle.rules.specs.ByRow.{sound_row}
use Rattle.sound_requests.specs.Rows.{Passed}
use Rattle.sound_requests.proofs.are_sound_rows.Given as goal

abbrev pub invariant-loop-k : goal.invariant-loop-k
invariant-loop-k l = (l.k ≤ 16) × Rest (sound_row (state l.book)) 256 (16 * l.k) (all (sound_row (state l.book)) 256 0) × Passed (state l.book) (16 * l.k)
