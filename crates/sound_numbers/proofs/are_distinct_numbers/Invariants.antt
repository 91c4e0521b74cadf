-- `sound_numbers::are_distinct_numbers` meets its contract: those below `i` passed and are marked.
-- Assumes nothing.
use Prim.Native.Nat.{◌≤◌}
use Rattle.laws.specs.Search.{all}
use Rattle.laws.proofs.Least.{Rest}
use Rattle.book.specs.State.{state}
use Rattle.rules.specs.ByRow.{distinct_number}
use Rattle.sound_numbers.specs.Numbers.{Marked}
use Rattle.sound_numbers.proofs.are_distinct_numbers.Given as goal

abbrev pub invariant-loop-i : goal.invariant-loop-i
invariant-loop-i l = (l.i ≤ 256) × Rest (distinct_number (state l.book)) 256 l.i (all (distinct_number (state l.book)) 256 0) × Marked (state l.book) l.marks l.i
