-- `baskets::is_eligible` meets its contract.
-- Assumes nothing.
use borrow.Author.Rules.{rules}
use borrow.Author.Tests.{tests}
use Rattle.baskets.specs.Fresh.{eligible_by}
use Rattle.baskets.proofs.is_eligible.Goals as goal

pub is_qualified-requires : goal.is_qualified-requires
is_qualified-requires c =
    rw c.security_at.ensures (c.requires.1.in_bounds c.args.i c.requires.0)

pub returns-then-has_bit : goal.returns-then-has_bit
unfolding eligible_by
returns-then-has_bit c = search (rules, tests)

pub returns-else-has_bit : goal.returns-else-has_bit
unfolding eligible_by
returns-else-has_bit c = search (rules, tests)
