-- `calendar::fresh_days` meets its contract: the ages below that of the day `before` have their first fresh day.
-- Assumes nothing.
use mathlib.Core.Path.{sym, ◌∙◌}
use native.Mathlib.Omega.{arith}
use borrow.Author.Rules.{rules}
use lib.ListN.{length-set}
use Rattle.calendar.proofs.Fresh.{walked_starts, walked_shut, walked_open, walked_all, walked_most}
use Rattle.calendar.proofs.fresh_days.Goals as goal

pub loop-before-init : goal.loop-before-init
loop-before-init c = (omega arith, search rules, walked_starts _ 256)

pub returns-then-most-age : goal.returns-then-most-age
returns-then-most-age c = walked_most c.loop-before.invariant.2 c.args.from c.args.most c.if-most-age.true

pub loop-before-preserved-then-is_open : goal.loop-before-preserved-then-is_open
loop-before-preserved-then-is_open c =
    let i = c.loop-before.invariant in
    (omega arith, simp length-set i.1, walked_open i.2 (omega arith) (omega arith) (sym c.is_open.ensures ∙ c.if-is_open.true))

pub loop-before-preserved : goal.loop-before-preserved
loop-before-preserved c =
    let i = c.loop-before.invariant in
    (i.0, i.1, walked_shut i.2 (omega arith) (sym c.is_open.ensures ∙ c.if-is_open.false))

pub returns : goal.returns
returns c = walked_all c.loop-before.invariant.2 c.args.from c.args.most c.loop-before-test.false
