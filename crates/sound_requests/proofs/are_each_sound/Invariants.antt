-- `sound_requests::are_each_sound` meets its contract: those below `i` passed.
-- Assumes nothing.
use Prim.Native.Nat.{◌+◌, ◌*◌, ◌≤◌}
use mathlib.Core.Path.{◌≡◌}
use Rattle.laws.specs.Search.{all}
use Rattle.laws.proofs.Least.{Rest}
use Rattle.book.specs.State.{state}
use Rattle.rules.specs.ByRow.{sound_row}
use Rattle.sound_requests.specs.Rows.{Passed}
use Rattle.sound_requests.proofs.are_each_sound.Given as goal

abbrev pub invariant-loop-i : goal.invariant-loop-i
invariant-loop-i l = (l.end ≡ 16 * l.k + 16) × (l.end ≤ 256) × (l.i ≤ l.end) × Rest (sound_row (state l.book)) l.end l.i (all (sound_row (state l.book)) 16 (16 * l.k)) × Passed (state l.book) l.i
