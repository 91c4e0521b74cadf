-- `marking::give_all_ineligible` meets its contract: the exposures below `e` have given back.
-- Assumes nothing.
use mathlib.Core.Path.{◌≡◌, refl}
use native.Mathlib.Omega.{arith}
use lib.ListN.{length-set}
use Rattle.book.specs.State.{state}
use Rattle.mark_steps.proofs.Passable.{first_pass}
use Rattle.rules.specs.Marking.{on_exposures, ineligible_back}
use Rattle.marking.proofs.Counts.{flags_next}
use Rattle.marking.proofs.Passing.{on_start, on_step, on_end, on_flag}
use Rattle.marking.proofs.give_all_ineligible.Goals as goal

pub loop-e-init : goal.loop-e-init
loop-e-init c = (omega arith, on_start c.requires.0 c.requires.1, refl, λ j l. absurd (omega arith))

pub give_ineligible-requires : goal.give_ineligible-requires
give_ineligible-requires c = (c.loop-e.invariant.1.whole, omega arith, c.loop-e.invariant.1.fresh)

pub loop-e-preserved : goal.loop-e-preserved
loop-e-preserved c =
    let o = c.loop-e.invariant.1 in
    let t = c.give_ineligible.ensures in
    (omega arith, on_step o t, simp length-set c.loop-e.invariant.2, flags_next _ c.loop-e.gave c.loop-e.e (omega arith) (on_flag o first_pass (omega arith) t) c.loop-e.invariant.3)

pub returns : goal.returns
returns c =
    let all : state c.loop-e.book ≡ on_exposures ineligible_back 64 (state c.args.book.now) = on_end c.loop-e.invariant.1 c.loop-e.invariant.0 c.loop-e-test.false in
    let e : c.loop-e.e ≡ 64 = omega arith in
    (c.loop-e.invariant.1.whole, c.loop-e.invariant.1.fresh, all, record { each = rw all (rw e at c.loop-e.invariant.3) })
