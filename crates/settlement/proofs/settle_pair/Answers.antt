-- `settlement::settle_pair` meets its contract.
-- Assumes nothing.
use Prim.Native.Nat.{◌≤◌}
use native.Mathlib.Omega.{arith}
use Rattle.book.specs.State.{state}
use Rattle.settlement_laws.specs.Ways.{return_way, fop_way}
use Rattle.settlement_laws.proofs.Settling.{fop_within}
use Rattle.pair_settlement.proofs.Pairs.{rest_le}
use Rattle.settlement.proofs.Passes.{uncounted, counted}
use Rattle.settlement.proofs.settle_pair.Goals as goal
use Rattle.settlement.proofs.settle_pair.Goals.{After-settle_fop-brought, After-settle_return-returned}

-- no pair settles more than 10^12 cents
return-small : (c : After-settle_return-returned) → c.settle_return-returned.result ≤ 1000000000000
return-small c =
    omega (arith, c.settle_return-returned.ensures.0, rest_le c.requires.0 c.requires.1)

fop-small : (c : After-settle_fop-brought) → c.settle_fop-brought.result ≤ 1000000000000
fop-small c =
    omega (arith, c.settle_fop-brought.ensures.0, rest_le c.requires.0 c.requires.1, fop_within (state c.args.book.now) c.args.i)

pub returns-then-returned-eq0 : goal.returns-then-returned-eq0
returns-then-returned-eq0 c =
    (rw c.in-Return.is (uncounted return_way (state c.args.book.now) c.args.t c.args.i c.settle_return-returned.ensures.0 c.settle_return-returned.ensures.1 c.if-returned-eq0.true), record { fops = omega arith; returns = omega arith; cents = omega arith })

pub returns-else-returned-eq0 : goal.returns-else-returned-eq0
returns-else-returned-eq0 c =
    let small = return-small (goal.at.returns-else-returned-eq0 c).After-settle_return-returned in
    (rw c.in-Return.is (counted return_way (state c.args.book.now) c.args.t c.args.i c.settle_return-returned.ensures.0 c.settle_return-returned.ensures.1 c.if-returned-eq0.false), record { fops = omega arith; returns = omega arith; cents = omega arith })

pub returns-then-brought-eq0 : goal.returns-then-brought-eq0
returns-then-brought-eq0 c =
    (rw c.in-Fop.is (uncounted fop_way (state c.args.book.now) c.args.t c.args.i c.settle_fop-brought.ensures.0 c.settle_fop-brought.ensures.1 c.if-brought-eq0.true), record { fops = omega arith; returns = omega arith; cents = omega arith })

pub overflow_add-result-in-Fop-2 : goal.overflow_add-result-in-Fop-2
overflow_add-result-in-Fop-2 c = omega (arith, fop-small (goal.at.overflow_add-result-in-Fop-2 c).After-settle_fop-brought)

pub returns-else-brought-eq0 : goal.returns-else-brought-eq0
returns-else-brought-eq0 c =
    let small = fop-small (goal.at.returns-else-brought-eq0 c).After-settle_fop-brought in
    (rw c.in-Fop.is (counted fop_way (state c.args.book.now) c.args.t c.args.i c.settle_fop-brought.ensures.0 c.settle_fop-brought.ensures.1 c.if-brought-eq0.false), record { fops = omega arith; returns = omega arith; cents = omega arith })
