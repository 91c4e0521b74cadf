-- `calendar::calendar_price_age` meets its contract.
-- Assumes nothing.
use mathlib.Core.Bool.{and-false}
use mathlib.Core.Path.{sym, ◌∙◌}
use borrow.Author.Rules.{rules}
use borrow.Author.Tests.{tests}
use Rattle.calendar.specs.Answers.{age_answer}
use Rattle.calendar.proofs.OpenDays.{open_within}
use Rattle.calendar.proofs.calendar_price_age.Goals as goal
use Rattle.calendar.proofs.calendar_price_age.Goals.{then-not-is_open-via-then-not-is_open, then-not-is_open-via-else-not-is_open+then-not-is_open-2, then-not-is_open-via-else-not-is_open+else-not-is_open-2+then-today-quote}

pub returns-then-not-is_open : goal.returns-then-not-is_open
unfolding age_answer
returns-then-not-is_open c = elim c.then-not-is_open.branch [
  | then-not-is_open-via-then-not-is_open w ↦ search (rules, tests)
  | then-not-is_open-via-else-not-is_open+then-not-is_open-2 w ↦ search (rules, tests, and-false)
  | then-not-is_open-via-else-not-is_open+else-not-is_open-2+then-today-quote w ↦ search (rules, tests, and-false)
]

pub age_of-requires : goal.age_of-requires
age_of-requires c =
    (open_within _ (sym c.is_open.ensures ∙ c.if-not-is_open.false), open_within _ (sym c.is_open-else-not-is_open.ensures ∙ c.if-not-is_open-2.false))

pub returns : goal.returns
unfolding age_answer
returns c = search (rules, tests)
