-- `marking::free_all` meets its contract: the exposures below `e` are freed.
-- Assumes nothing.
use mathlib.Core.Path.{◌≡◌, sym, ◌∙◌}
use native.Mathlib.Omega.{arith}
use Rattle.laws.proofs.Filled.{filled_first, filled_next}
use Rattle.laws.proofs.Least.{count_none, count_le}
use Rattle.book.specs.State.{state}
use Rattle.mark_steps.proofs.Passable.{second_pass}
use Rattle.marking.specs.Flags.{flagged_or}
use Rattle.marking.proofs.Counts.{or_first, or_second, byte_le, count_more}
use Rattle.marking.proofs.Passing.{on_start, on_step, on_end, on_flag, on_missing}
use Rattle.marking.proofs.free_all.Invariants.{after, gives}
use Rattle.marking.proofs.free_all.Goals as goal
use Rattle.marking.proofs.free_all.Goals.{After-from, then-gave-e, else-gave-e}

-- what counts of one exposure
counts : (c : After-from) → c.if-gave-e.from ≡ flagged_or c.args.gave.now (gives (state c.args.book.now)) c.loop-e.e
counts c =
    elim c.if-gave-e.branch [
      | then-gave-e w ↦ or_first (gives (state c.args.book.now) c.loop-e.e) (w.from-is ∙ w.if-gave-e.true) w.if-gave-e.true
      | else-gave-e w ↦ or_second (w.from-is ∙ on_flag c.loop-e.invariant.1 second_pass (omega arith) c.free_excess-step.ensures.0) w.if-gave-e.false
    ]

pub loop-e-init : goal.loop-e-init
loop-e-init c =
    (omega arith, on_start c.requires.0 c.requires.1, sym (count_none _ 0), filled_first _ 64)

pub overflow_add-count : goal.overflow_add-count
overflow_add-count c =
    omega (arith, byte_le c.if-gave-e.from c.from.ensures, count_le (flagged_or c.args.gave.now (gives (state c.args.book.now))) c.loop-e.e 0)

pub loop-e-preserved : goal.loop-e-preserved
loop-e-preserved c =
    let o = c.loop-e.invariant.1 in
    let t = c.free_excess-step.ensures in (
      omega arith,
      on_step o t.0,
      count_more _ c.loop-e.e c.loop-e.invariant.2 c.from.ensures (counts (goal.at.loop-e-preserved c).After-from),
      filled_next _ 64 c.loop-e.e c.loop-e.missing (on_missing o second_pass (omega arith) t.0 t.1) c.loop-e.invariant.3,
    )

pub returns : goal.returns
returns c =
    let all : state c.loop-e.book ≡ after (state c.args.book.now) = on_end c.loop-e.invariant.1 c.loop-e.invariant.0 c.loop-e-test.false in
    let e : c.loop-e.e ≡ 64 = omega arith in
    (c.loop-e.invariant.1.whole, c.loop-e.invariant.1.fresh, all, rw all (rw e at c.loop-e.invariant.2), rw all (rw e at c.loop-e.invariant.3))
