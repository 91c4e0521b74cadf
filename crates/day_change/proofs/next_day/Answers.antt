-- `day_change::next_day` meets its contract.
-- Assumes nothing.
use native.Mathlib.Omega.{arith}
use Rattle.book.specs.State.{state}
use Rattle.day_change.proofs.Stages.{may_begin, begun_sound, fops_sound, closed_sound, dropped_le, passes}
use Rattle.day_change.proofs.next_day.Goals as goal

pub begin_day-day-requires : goal.begin_day-day-requires
begin_day-day-requires c =
    let fit = may_begin c.args.book.now (omega arith) c.fits-book c.requires.0 c.requires.1 c.drop_rows-done.ensures.1 in
    (fit.0, fit.1)

pub drop_rows-fops-requires : goal.drop_rows-fops-requires
drop_rows-fops-requires c =
    begun_sound c.args.book.now (omega arith) c.fits-book c.requires.0 c.requires.1 c.drop_rows-done.ensures.1 c.begin_day-day.ensures.1

pub close_exposures-closed-requires : goal.close_exposures-closed-requires
close_exposures-closed-requires c =
    fops_sound c.args.book.now (omega arith) c.fits-book c.requires.0 c.requires.1 c.drop_rows-done.ensures.1 c.begin_day-day.ensures.1 c.drop_rows-fops.ensures.1

pub drop_rows-returns-requires : goal.drop_rows-returns-requires
drop_rows-returns-requires c =
    closed_sound c.args.book.now (omega arith) c.fits-book c.requires.0 c.requires.1 c.drop_rows-done.ensures.1 c.begin_day-day.ensures.1 c.drop_rows-fops.ensures.1 c.close_exposures-closed.ensures.1

pub overflow_add-result : goal.overflow_add-result
overflow_add-result c =
    omega (arith, dropped_le _ c.drop_rows-done.ensures.0, dropped_le _ c.drop_rows-fops.ensures.0)

pub overflow_add-result-2 : goal.overflow_add-result-2
overflow_add-result-2 c =
    omega (arith, dropped_le _ c.drop_rows-done.ensures.0, dropped_le _ c.drop_rows-fops.ensures.0, dropped_le _ c.drop_rows-returns.ensures.0)

pub returns : goal.returns
returns c =
    passes (state c.args.book.now) c.drop_rows-done.ensures c.begin_day-day.ensures c.drop_rows-fops.ensures c.close_exposures-closed.ensures c.drop_rows-returns.ensures c.free_exposures.ensures
