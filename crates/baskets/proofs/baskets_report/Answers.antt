-- `baskets::baskets_report` meets its contract.
-- Assumes nothing.
use borrow.Author.Rules.{rules}
use borrow.Author.Tests.{tests}
use Rattle.baskets.specs.Report.{report}
use Rattle.baskets.proofs.baskets_report.Goals as goal

pub returns-then-map-eq0 : goal.returns-then-map-eq0
unfolding report
returns-then-map-eq0 c = search (rules, tests)

pub returns : goal.returns
unfolding report
returns c = search (rules, tests)
