-- `day_exposures::free_exposures` meets its contract: the idle exposures below `e` are freed.
-- Assumes nothing.
use mathlib.Core.Path.{◌≡◌, refl, sym}
use native.Mathlib.Omega.{arith}
use Rattle.book.specs.State.{state}
use Rattle.rules.specs.DayChange.{is_idle, exposure_freed, exposures_freed}
use Rattle.day_laws.proofs.Each.{no_turn}
use Rattle.day_rows.proofs.OnEach.{loop_steps}
use Rattle.day_exposures.proofs.Exposures.{freed_apart}
use Rattle.day_exposures.proofs.Marks.{later_marked}
use Rattle.day_exposures.proofs.free_exposures.Goals as goal

pub mark_rows-requires : goal.mark_rows-requires
mark_rows-requires c = refl

pub loop-e-init : goal.loop-e-init
loop-e-init c =
    let first = state c.args.book.now in
    (omega arith, sym (no_turn (is_idle first) exposure_freed first), c.mark_rows.ensures)

pub free_exposure-requires : goal.free_exposure-requires
free_exposure-requires c =
    let first = state c.args.book.now in
    (omega arith, rw c.loop-e.invariant.1 (later_marked first _ c.loop-e.e (omega arith) c.loop-e.invariant.2))

pub loop-e-preserved : goal.loop-e-preserved
loop-e-preserved c =
    let first = state c.args.book.now in (
      omega arith,
      loop_steps is_idle exposure_freed freed_apart first c.loop-e.e c.loop-e.invariant.1 c.free_exposure.ensures,
      c.loop-e.invariant.2,
    )

pub returns : goal.returns
unfolding exposures_freed
returns c =
    let e : c.loop-e.e ≡ 64 = omega arith in
    rw (← e) c.loop-e.invariant.1
