-- `sound_exposures::are_distinct_keys` meets its contract: those below `e` passed and are marked.
-- Assumes nothing.
use Prim.Native.Nat.{◌≤◌}
use Rattle.laws.specs.Search.{all}
use Rattle.laws.proofs.Least.{Rest}
use Rattle.book.specs.State.{state}
use Rattle.rules.specs.ByRow.{distinct_key}
use Rattle.sound_exposures.specs.Keys.{KeysMarked}
use Rattle.sound_exposures.proofs.are_distinct_keys.Given as goal

abbrev pub invariant-loop-e : goal.invariant-loop-e
invariant-loop-e l = (l.e ≤ 64) × Rest (distinct_key (state l.book)) 64 l.e (all (distinct_key (state l.book)) 64 0) × KeysMarked (state l.book) l.marks l.e
