-- `marking::search_all` meets its contract: the exposures below `e` are searched for.
-- Assumes nothing.
use mathlib.Core.Path.{◌≡◌}
use mathlib.Core.Bool.{Bool}
use Prim.Native.Nat.{ℕ, ◌*◌, ◌≤◌}
use Rattle.laws.specs.Search.{count}
use Rattle.laws.specs.Sum.{sum}
use Rattle.book.specs.State.{State, state}
use Rattle.rules.specs.Marking.{on_exposures, moved, shortfall_in, missing_of}
use Rattle.marking.proofs.Passing.{On}
use Rattle.marking.proofs.search_all.Given as goal

-- the state after the pass, and whether it changes the position of an exposure
abbrev pub after : State → State
after s = on_exposures shortfall_in 64 s

abbrev pub takes : State → ℕ → Bool
takes s e = moved s (after s) e

abbrev pub invariant-loop-e : goal.invariant-loop-e
invariant-loop-e l =
    (l.e ≤ 64)
    × On shortfall_in l.prices l.initial.book l.book l.e
    × (l.count ≡ count (takes (state l.initial.book)) l.e 0)
    × (l.after ≡ sum (missing_of (after (state l.initial.book))) l.e)
    × (l.after ≤ 10000000000000 * l.e)
