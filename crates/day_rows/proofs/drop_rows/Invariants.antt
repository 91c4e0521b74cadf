-- `day_rows::drop_rows` meets its contract: the rows below `i` are dropped and counted, and the rest of the count is to come.
-- Assumes nothing.
use mathlib.Core.Path.{◌≡◌}
use Prim.Native.Nat.{◌+◌, ◌-◌, ◌≤◌}
use Rattle.laws.specs.Search.{count}
use Rattle.book.specs.State.{state}
use Rattle.rules.specs.DayChange.{row_dropped, on_each}
use Rattle.day_rows.specs.Parts.{drops}
use Rattle.day_rows.proofs.drop_rows.Given as goal

abbrev pub invariant-loop-i : goal.invariant-loop-i
invariant-loop-i l = (l.i ≤ 256)
    × (l.dropped + count (drops l.pass (state l.initial.book)) (256 - l.i) l.i ≡ count (drops l.pass (state l.initial.book)) 256 0)
    × (state l.book ≡ on_each (drops l.pass (state l.initial.book)) row_dropped l.i (state l.initial.book))
