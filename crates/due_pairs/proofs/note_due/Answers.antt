-- `due_pairs::note_due` meets its contract: a key fits, since days and numbers are small.
-- Assumes nothing.
use mathlib.Core.Path.{sym, ◌∙◌}
use native.Mathlib.Omega.{arith}
use Prim.Native.Nat.{◌<◌}
use Rattle.book.specs.State.{state}
use Rattle.due_pairs.proofs.Keys.{due_small, not_noted, noted}
use Rattle.due_pairs.proofs.note_due.Goals as goal
use Rattle.due_pairs.proofs.note_due.Goals.{After-order_of}

small : (c : After-order_of) → c.order_of.result < 72057594037927935
small c = rw c.order_of.ensures (due_small (state c.args.book.now) c.args.kind c.args.i c.requires.0 c.requires.1 (sym c.is_due.ensures ∙ c.if-is_due.true))

pub overflow_mul-order_of : goal.overflow_mul-order_of
overflow_mul-order_of c = omega (arith, small c)

pub overflow_add-order_of : goal.overflow_add-order_of
overflow_add-order_of c = omega (arith, small c)

pub returns-then-is_due : goal.returns-then-is_due
returns-then-is_due c = noted c.requires.2 c.is_due.ensures c.if-is_due.true c.order_of.ensures c.push.ensures.items

pub returns-else-is_due : goal.returns-else-is_due
returns-else-is_due c = not_noted c.requires.2 c.is_due.ensures c.if-is_due.false
