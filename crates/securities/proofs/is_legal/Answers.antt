-- `securities::is_legal` meets its contract.
-- Assumes nothing.
use mathlib.Core.Bool.{and-false, or-false}
use borrow.Author.Rules.{rules}
use borrow.Author.Tests.{tests}
use Rattle.securities.specs.Security.{legal_security}
use Rattle.securities.proofs.is_legal.Goals as goal
use Rattle.securities.proofs.is_legal.Goals.{then-s-eq0-2, else-s-eq0-2}

pub returns-then-s-eq0-3 : goal.returns-then-s-eq0-3
unfolding legal_security
returns-then-s-eq0-3 c = elim c.if-s-eq0-2.branch [
  | then-s-eq0-2 w ↦ search (rules, tests, and-false, or-false)
  | else-s-eq0-2 w ↦ search (rules, tests, and-false, or-false)
]

pub returns-else-s-eq0-3 : goal.returns-else-s-eq0-3
unfolding legal_security
returns-else-s-eq0-3 c = elim c.if-s-eq0-2.branch [
  | then-s-eq0-2 w ↦ search (rules, tests, and-false, or-false)
  | else-s-eq0-2 w ↦ search (rules, tests, and-false, or-false)
]

pub returns-then-s-le-GREATEST_LOT : goal.returns-then-s-le-GREATEST_LOT
unfolding legal_security
returns-then-s-le-GREATEST_LOT c = search (rules, tests, and-false, or-false)

pub returns-else-s-le-GREATEST_LOT : goal.returns-else-s-le-GREATEST_LOT
unfolding legal_security
returns-else-s-le-GREATEST_LOT c = search (rules, tests, and-false, or-false)
