-- `picking_calls::are_legal_days` meets its contract.
-- Assumes nothing.
use borrow.Author.Rules.{rules}
use borrow.Author.Tests.{tests}
use Rattle.picking_calls.specs.Answers.{legal_days}
use Rattle.picking_calls.proofs.are_legal_days.Goals as goal

pub returns-then-is_open : goal.returns-then-is_open
unfolding legal_days
returns-then-is_open c = search (rules, tests)

pub returns-else-is_open : goal.returns-else-is_open
unfolding legal_days
returns-else-is_open c = search (rules, tests)
