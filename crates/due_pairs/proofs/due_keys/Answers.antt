-- `due_pairs::due_keys` meets its contract: the keys of the rows below `i` are found.
-- Assumes nothing.
use mathlib.Core.Path.{◌≡◌}
use native.Mathlib.Omega.{arith}
use Rattle.due_pairs.proofs.Keys.{none_noted}
use Rattle.due_pairs.proofs.due_keys.Goals as goal

pub loop-i-init : goal.loop-i-init
loop-i-init c = (omega arith, none_noted _ _ c.new-keys.ensures)

pub loop-i-preserved : goal.loop-i-preserved
loop-i-preserved c = (omega arith, c.note_due.ensures)

pub returns : goal.returns
returns c =
    let done : c.loop-i.i ≡ 256 = omega arith in
    rw done at c.loop-i.invariant.1.all
