-- `marking::search_all` meets its contract: the exposures below `e` are searched for.
-- Assumes nothing.
use mathlib.Core.Path.{◌≡◌, sym, ◌∙◌}
use Prim.Native.Nat.{◌≤◌, ◌<◌}
use native.Mathlib.Nat.{le_refl}
use native.Mathlib.Omega.{arith}
use Rattle.laws.proofs.Filled.{filled_at}
use Rattle.laws.proofs.Least.{count_none, count_le}
use Rattle.book.specs.State.{state}
use Rattle.mark_steps.proofs.Passable.{third_pass}
use Rattle.rules.specs.Marking.{missing_of}
use Rattle.marking.proofs.Counts.{sum_none, sum_more, byte_le, count_more}
use Rattle.marking.proofs.Passing.{on_start, on_step, on_end, on_before, on_flag, on_missing, missing_le}
use Rattle.marking.proofs.search_all.Invariants.{after, takes}
use Rattle.marking.proofs.search_all.Goals as goal
use Rattle.marking.proofs.search_all.Goals.{After-from-count}

-- no more than an amount is missing of an exposure
lacks-le : (c : After-from-count) → c.search_missing-step.result.missing ≤ 10000000000000
lacks-le c = rw c.search_missing-step.ensures.1 (missing_le c.search_missing-step.ensures.0.book (omega arith))

pub loop-e-init : goal.loop-e-init
loop-e-init c =
    (omega arith, on_start c.requires.0 c.requires.1, sym (count_none _ 0), sum_none _, omega arith)

pub search_missing-step-requires : goal.search_missing-step-requires
search_missing-step-requires c =
    let below : c.loop-e.e < 64 = omega arith in
    (c.loop-e.invariant.1.whole, below, rw c.requires.2 (filled_at (missing_of (state c.args.book.now)) 64 64 c.loop-e.e (le_refl 64) below) ∙ on_before c.loop-e.invariant.1 third_pass, c.loop-e.invariant.1.fresh)

pub overflow_add-count : goal.overflow_add-count
overflow_add-count c =
    omega (arith, byte_le c.search_missing-step.result.moved c.from-count.ensures, count_le (takes (state c.args.book.now)) c.loop-e.e 0)

pub overflow_add-after : goal.overflow_add-after
overflow_add-after c = omega (arith, lacks-le (goal.at.overflow_add-after c).After-from-count)

pub loop-e-preserved : goal.loop-e-preserved
loop-e-preserved c =
    let o = c.loop-e.invariant.1 in
    let t = c.search_missing-step.ensures in (
      omega arith,
      on_step o t.0,
      count_more _ c.loop-e.e c.loop-e.invariant.2 c.from-count.ensures (on_flag o third_pass (omega arith) t.0),
      sum_more _ c.loop-e.e c.loop-e.invariant.3 (on_missing o third_pass (omega arith) t.0 t.1),
      omega (arith, lacks-le (goal.at.loop-e-preserved c).After-from-count),
    )

pub returns : goal.returns
returns c =
    let all : state c.loop-e.book ≡ after (state c.args.book.now) = on_end c.loop-e.invariant.1 c.loop-e.invariant.0 c.loop-e-test.false in
    let e : c.loop-e.e ≡ 64 = omega arith in
    (all, rw all (rw e at c.loop-e.invariant.2), rw all (rw e at c.loop-e.invariant.3))
