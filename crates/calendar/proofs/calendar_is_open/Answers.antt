-- `calendar::calendar_is_open` meets its contract.
-- Assumes nothing.
use borrow.Author.Rules.{rules}
use borrow.Author.Tests.{tests}
use Rattle.calendar.specs.Answers.{is_open_answer}
use Rattle.calendar.proofs.calendar_is_open.Goals as goal

pub returns-then-day-gt-LAST_DAY : goal.returns-then-day-gt-LAST_DAY
unfolding is_open_answer
returns-then-day-gt-LAST_DAY c = search (rules, tests)

pub returns : goal.returns
unfolding is_open_answer
returns c = search (rules, tests)
