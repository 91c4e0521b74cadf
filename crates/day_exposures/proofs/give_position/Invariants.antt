-- `day_exposures::give_position` meets its contract: the securities below `i` are given back.
-- Assumes nothing.
use mathlib.Core.Path.{◌≡◌}
use Prim.Native.Nat.{◌≤◌}
use Rattle.book.specs.State.{state}
use Rattle.rules.specs.DayChange.{on_each}
use Rattle.day_exposures.specs.Parts.{is_held, security_back}
use Rattle.day_exposures.proofs.give_position.Given as goal

abbrev pub invariant-loop-i : goal.invariant-loop-i
invariant-loop-i l = (l.i ≤ 64) × (state l.book ≡ on_each (is_held l.e (state l.initial.book)) (security_back l.owner l.e) l.i (state l.initial.book))
