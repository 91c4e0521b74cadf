-- `day_exposures::close_exposure` meets its contract.
-- Assumes nothing.
use mathlib.Core.Path.{sym, ◌∙◌}
use Rattle.book.specs.State.{state}
use Rattle.rules.specs.DayChange.{is_exposure_closed, exposure_closed}
use Rattle.day_exposures.proofs.Exposures.{entire_back}
use Rattle.day_laws.proofs.Closed.{closed_used}
use Rattle.day_rows.proofs.OnEach.{step_taken, step_left}
use Rattle.day_exposures.proofs.close_exposure.Goals as goal

pub give_position-requires : goal.give_position-requires
give_position-requires c =
    let before = state c.args.book.now in
    entire_back before c.args.e c.requires.0 (closed_used before c.args.e (sym c.is_exposure_closed.ensures ∙ c.if-is_exposure_closed.true)) c.requires.1

pub returns-then-is_exposure_closed : goal.returns-then-is_exposure_closed
returns-then-is_exposure_closed c =
    let test = c.is_exposure_closed.ensures in (
      rw (sym test ∙ c.if-is_exposure_closed.true) c.get-amount.ensures,
      step_taken is_exposure_closed exposure_closed (state c.args.book.now) c.args.e test c.if-is_exposure_closed.true
          (rw (c.set.ensures, c.give_position.ensures)),
    )

pub returns-else-is_exposure_closed : goal.returns-else-is_exposure_closed
returns-else-is_exposure_closed c =
    let test = c.is_exposure_closed.ensures in (
      rw (sym test ∙ c.if-is_exposure_closed.false),
      step_left is_exposure_closed exposure_closed (state c.args.book.now) c.args.e test c.if-is_exposure_closed.false,
    )
