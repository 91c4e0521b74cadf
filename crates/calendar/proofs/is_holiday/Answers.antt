-- `calendar::is_holiday` meets its contract.
-- Assumes nothing.
use borrow.Author.Rules.{rules}
use borrow.Author.Tests.{tests}
use Rattle.calendar.proofs.Holidays.{holiday_by_number}
use Rattle.calendar.proofs.is_holiday.Goals as goal

pub returns-then-n-leap-3 : goal.returns-then-n-leap-3
returns-then-n-leap-3 c = search (rules, tests, holiday_by_number)

pub returns-else-n-leap-3 : goal.returns-else-n-leap-3
returns-else-n-leap-3 c = search (rules, tests, holiday_by_number)
