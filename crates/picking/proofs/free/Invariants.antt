-- `picking::free` meets its contract: the securities from `i` on are done.
-- Assumes nothing.
use mathlib.Core.Path.{◌≡◌}
use Prim.Native.Nat.{◌-◌, ◌≤◌}
use Rattle.picking.specs.Free.{freed_above}
use Rattle.picking.specs.declared.Freed.{Freed}
use Rattle.picking.proofs.free.Given as goal

abbrev pub invariant-loop-i : goal.invariant-loop-i
invariant-loop-i l = (l.i ≤ 64) × (◌≡◌ {A = Freed} (record { nominals = l.nominals; left = l.left; count = l.count }) (freed_above l.columns l.position l.exposure (64 - l.i)))
