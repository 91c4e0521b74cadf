-- `day_exposures::close_exposures` meets its contract: the exposures below `e` are closed, and their amounts summed.
-- Assumes nothing.
use mathlib.Core.Path.{◌≡◌, refl, sym}
use native.Mathlib.Omega.{arith}
use Rattle.laws.specs.Sum.{sum}
use Rattle.laws.proofs.Sum.{sum_next, sum_le}
use Rattle.book.specs.State.{state}
use Rattle.book.proofs.Images.{state_fits}
use Rattle.rules.specs.DayChange.{is_exposure_closed, exposure_closed, exposures_closed}
use Rattle.facts.proofs.Written.{sound_facts}
use Rattle.facts.specs.Good.{Good}
use Rattle.day_laws.proofs.Closed.{closing_turned}
use Rattle.day_laws.proofs.Each.{no_turn}
use Rattle.day_exposures.specs.Parts.{amount_closed}
use Rattle.day_exposures.proofs.Exposures.{sound_closable, amount_before, amount_le, closed_apart}
use Rattle.day_rows.proofs.OnEach.{loop_steps}
use Rattle.day_exposures.proofs.close_exposures.Goals as goal

pub loop-e-init : goal.loop-e-init
unfolding sum
loop-e-init c =
    let first = state c.args.book.now in
    (omega arith, refl, sym (no_turn (is_exposure_closed first) exposure_closed first))

pub close_exposure-closed-requires : goal.close_exposure-closed-requires
close_exposure-closed-requires c =
    let first = state c.args.book.now in
    let good : Good first = record { facts = sound_facts first c.requires; fits = state_fits c.args.book.now (omega arith) c.fits-book } in
    (omega arith, rw c.loop-e.invariant.2 (sound_closable _ (closing_turned first good c.loop-e.e c.loop-e.invariant.0).good.facts))

pub overflow_add-closed : goal.overflow_add-closed
overflow_add-closed c =
    let first = state c.args.book.now in
    let closable = sound_closable first (sound_facts first c.requires) in
    omega (
      arith,
      sum_le (amount_closed first) 10000000000000 c.loop-e.e (λ d m. amount_le first d (omega arith) closable),
      amount_before first c.loop-e.e c.loop-e.invariant.2 c.close_exposure-closed.ensures.0,
      amount_le first c.loop-e.e (omega arith) closable,
    )

pub loop-e-preserved : goal.loop-e-preserved
loop-e-preserved c =
    let a = c.args in
    let first = state a.book.now in
    let r = c.close_exposure-closed.ensures in (
      omega arith,
      rw (sum_next, c.loop-e.invariant.1, amount_before first c.loop-e.e c.loop-e.invariant.2 r.0),
      loop_steps is_exposure_closed exposure_closed closed_apart first c.loop-e.e c.loop-e.invariant.2 r.1,
    )

pub returns : goal.returns
unfolding exposures_closed
returns c =
    let e : c.loop-e.e ≡ 64 = omega arith in
    (rw e at c.loop-e.invariant.1, rw (← e) c.loop-e.invariant.2)
