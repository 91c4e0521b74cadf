-- `securities::value_at` meets its contract: what is not held is worth nothing.
-- Assumes nothing.
use Rattle.valuation.proofs.Laws.{value_zero}
use Rattle.securities.proofs.value_at.Goals as goal

pub returns-then-nominal-eq0 : goal.returns-then-nominal-eq0
returns-then-nominal-eq0 c = rw (c.if-nominal-eq0.true, value_zero)

pub value_of-requires : goal.value_of-requires
value_of-requires c =
    rw c.security_at-s.ensures (c.requires.2.within c.args.i c.requires.0, (c.requires.1.in_bounds c.args.i c.requires.0).bounded)

pub returns : goal.returns
returns c = rw (c.value_of.ensures, c.security_at-s.ensures)
