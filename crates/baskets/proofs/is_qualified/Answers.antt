-- `baskets::is_qualified` meets its contract.
-- Assumes nothing.
use mathlib.Core.Bool.{and-false, and-true}
use borrow.Author.Rules.{rules}
use borrow.Author.Tests.{tests}
use Rattle.baskets.specs.Fresh.{qualifies_by}
use Rattle.baskets.proofs.is_qualified.Goals as goal
use Rattle.baskets.proofs.is_qualified.Goals.{then-s-ne0, else-s-ne0}

pub returns-then-value_of-ge1 : goal.returns-then-value_of-ge1
unfolding qualifies_by
returns-then-value_of-ge1 c = elim c.if-s-ne0.branch [
  | then-s-ne0 w ↦ search (rules, tests, and-false, and-true)
  | else-s-ne0 w ↦ search (rules, tests, and-false, and-true)
]

pub returns-else-value_of-ge1 : goal.returns-else-value_of-ge1
unfolding qualifies_by
returns-else-value_of-ge1 c = elim c.if-s-ne0.branch [
  | then-s-ne0 w ↦ search (rules, tests, and-false, and-true)
  | else-s-ne0 w ↦ search (rules, tests, and-false, and-true)
]
