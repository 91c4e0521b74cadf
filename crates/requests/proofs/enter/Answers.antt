-- `requests::enter` meets its contract.
-- Assumes nothing.
use borrow.Author.Rules.{rules}
use Rattle.requests.proofs.Steps.{entered_totals}
use Rattle.requests.proofs.enter.Goals as goal

pub returns : goal.returns
returns c = (search entered_totals, search rules)
