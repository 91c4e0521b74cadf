-- `securities::is_quoted` meets its contract.
-- Assumes nothing.
use mathlib.Core.Path.{◌∙◌}
use native.Mathlib.Nat.{le_of_lt}
use native.Mathlib.Omega.{arith}
use borrow.Author.Tests.{le-ltb}
use Rattle.securities.proofs.Legal.{no_quote, quoted_today, late_quote, by_quote}
use Rattle.securities.proofs.is_quoted.Goals as goal
use Rattle.securities.proofs.is_quoted.Goals.{then-s-eq0-via-then-s-eq0, then-s-eq0-via-else-s-eq0+then-s-today}

pub returns-then-s-eq0 : goal.returns-then-s-eq0
returns-then-s-eq0 c = elim c.then-s-eq0.branch [
  | then-s-eq0-via-then-s-eq0 w ↦ search no_quote
  | then-s-eq0-via-else-s-eq0+then-s-today w ↦ search quoted_today
]

pub returns-then-s-today-2 : goal.returns-then-s-today-2
returns-then-s-today-2 c = search (by_quote, le_of_lt)

pub returns-else-s-today-2 : goal.returns-else-s-today-2
returns-else-s-today-2 c = le-ltb _ _ c.if-s-today-2.false ∙ late_quote c.args.s c.args.today c.if-s-eq0.false (omega arith)
