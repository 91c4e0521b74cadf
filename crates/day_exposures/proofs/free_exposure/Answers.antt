-- `day_exposures::free_exposure` meets its contract.
-- Assumes nothing.
use Rattle.book.specs.State.{state}
use Rattle.rules.specs.DayChange.{is_idle, exposure_freed}
use Rattle.day_rows.proofs.OnEach.{step_taken, step_left}
use Rattle.day_exposures.proofs.free_exposure.Goals as goal

pub returns-then-is_idle : goal.returns-then-is_idle
returns-then-is_idle c =
    step_taken is_idle exposure_freed (state c.args.book.now) c.args.e c.is_idle.ensures c.if-is_idle.true c.clear.ensures

pub returns-else-is_idle : goal.returns-else-is_idle
returns-else-is_idle c =
    step_left is_idle exposure_freed (state c.args.book.now) c.args.e c.is_idle.ensures c.if-is_idle.false
