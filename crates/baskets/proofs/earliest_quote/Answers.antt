-- `baskets::earliest_quote` meets its contract: none of the securities below `i` was quoted before the day.
-- Assumes nothing.
use mathlib.Core.Path.{◌≡◌}
use native.Mathlib.Omega.{arith}
use Rattle.baskets.proofs.Eligible.{none_first, none_next}
use Rattle.baskets.proofs.earliest_quote.Goals as goal

pub loop-i-init : goal.loop-i-init
loop-i-init c = (omega arith, none_first _ _)

pub loop-i-preserved : goal.loop-i-preserved
loop-i-preserved c =
    let quote = c.earlier_quote-day.ensures in
    (omega arith, none_next c.loop-i.invariant.1 c.security_at.ensures quote.0 quote.1)

pub returns : goal.returns
returns c = let e : c.loop-i.i ≡ 64 = omega arith in rw e at c.loop-i.invariant.1
