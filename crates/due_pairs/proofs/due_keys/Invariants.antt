-- `due_pairs::due_keys` meets its contract: the keys of the rows below `i` are found.
-- Assumes nothing.
use Prim.Native.Nat.{◌≤◌}
use Rattle.book.specs.State.{state}
use Rattle.due_pairs.specs.Due.{KeysBelow}
use Rattle.due_pairs.proofs.due_keys.Given as goal

abbrev pub invariant-loop-i : goal.invariant-loop-i
invariant-loop-i l = (l.i ≤ 256) × KeysBelow (state l.book) l.kind l.i l.keys.items
