-- `settlement::settle_pairs` meets its contract: some pairs are tried, and what is left of the list leads to the same end.
-- Assumes nothing.
use mathlib.Core.List.{List}
use Prim.Native.Nat.{ℕ, ◌-◌, ◌<◌}
use Rattle.book.specs.State.{state}
use Rattle.settlement.specs.Numbered.{pair_number}
use Rattle.settlement.proofs.Passes.{Underway}
use Rattle.settlement.proofs.settle_pairs.Given as goal

abbrev pub invariant-loop-key : goal.invariant-loop-key
invariant-loop-key l =
    ((n : ℕ) × (rows : List ℕ) × Underway (pair_number l.kind) (state l.initial.book) l.initial.total n l.last (state l.book) l.total rows) × (l.last < 72057594037927935)

-- each pair is later in the order than the one before
abbrev pub decreases-loop-key : goal.decreases-loop-key
decreases-loop-key l = 72057594037927935 - l.last
