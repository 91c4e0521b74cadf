-- `calendar::calendar_next_open_day` meets its contract.
-- Assumes nothing.
use mathlib.Core.Path.{◌≡◌, sym, ◌∙◌}
use mathlib.Core.Bool.{Bool, true, false}
use mathlib.Core.Logic.{⊎_elim}
use lib.Dec.{leb}
use Rattle.laws.proofs.Cases.{either}
use Rattle.calendar.specs.Target.{next_open_day}
use borrow.Author.Rules.{rules}
use borrow.Author.Tests.{tests}
use Rattle.calendar.specs.Answers.{next_open_day_answer}
use Rattle.calendar.proofs.OpenDays.{open_within}
use Rattle.calendar.proofs.calendar_next_open_day.Goals as goal

pub returns-then-not-is_open : goal.returns-then-not-is_open
unfolding next_open_day_answer
returns-then-not-is_open c = search (rules, tests)

pub open_day_after-requires : goal.open_day_after-requires
open_day_after-requires c = open_within _ (sym c.is_open.ensures ∙ c.if-not-is_open.false)

pub returns : goal.returns
unfolding next_open_day_answer
returns c =
    let in-time : Bool = leb (next_open_day c.args.day) 146096 in
    rw (c.ok_or.ensures.value, c.open_day_after.ensures, sym c.is_open.ensures ∙ c.if-not-is_open.false)
    (⊎_elim (λ (p : in-time ≡ true). rw p) (λ (p : in-time ≡ false). rw p) (either in-time))
