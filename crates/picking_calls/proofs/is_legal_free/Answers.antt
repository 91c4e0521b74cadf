-- `picking_calls::is_legal_free` meets its contract.
-- Assumes nothing.
use mathlib.Core.Bool.{and-false}
use borrow.Author.Rules.{rules}
use borrow.Author.Tests.{tests}
use Rattle.picking_calls.specs.Answers.{legal_free}
use Rattle.picking_calls.proofs.is_legal_free.Goals as goal
use Rattle.picking_calls.proofs.is_legal_free.Goals.{then-are_nominals, else-are_nominals}

pub returns-then-are_legal : goal.returns-then-are_legal
unfolding legal_free
returns-then-are_legal c = elim c.if-are_nominals.branch [
  | then-are_nominals w ↦ search (rules, tests, and-false)
  | else-are_nominals w ↦ search (rules, tests, and-false)
]

pub returns-else-are_legal : goal.returns-else-are_legal
unfolding legal_free
returns-else-are_legal c = elim c.if-are_nominals.branch [
  | then-are_nominals w ↦ search (rules, tests, and-false)
  | else-are_nominals w ↦ search (rules, tests, and-false)
]
