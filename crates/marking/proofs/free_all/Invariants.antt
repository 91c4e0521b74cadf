-- `marking::free_all` meets its contract: the exposures below `e` are freed.
-- Assumes nothing.
use mathlib.Core.Path.{◌≡◌}
use mathlib.Core.Bool.{Bool}
use Prim.Native.Nat.{ℕ, ◌≤◌}
use Rattle.laws.specs.Filled.{filled}
use Rattle.laws.specs.Search.{count}
use Rattle.book.specs.State.{State, state}
use Rattle.rules.specs.Marking.{on_exposures, moved, excess_back, missing_of}
use Rattle.marking.specs.Flags.{flagged_or}
use Rattle.marking.proofs.Passing.{On}
use Rattle.marking.proofs.free_all.Given as goal

-- the state after the pass, and whether it changes the position of an exposure
abbrev pub after : State → State
after s = on_exposures excess_back 64 s

abbrev pub gives : State → ℕ → Bool
gives s e = moved s (after s) e

abbrev pub invariant-loop-e : goal.invariant-loop-e
invariant-loop-e l =
    (l.e ≤ 64)
    × On excess_back l.prices l.initial.book l.book l.e
    × (l.count ≡ count (flagged_or l.gave (gives (state l.initial.book))) l.e 0)
    × (l.missing ≡ filled (missing_of (after (state l.initial.book))) 64 l.e)
