-- `valuation::valuation_value` meets its contract.
-- Assumes nothing.
use mathlib.Core.Bool.{and-false}
use borrow.Author.Rules.{rules}
use borrow.Author.Tests.{tests}
use Rattle.valuation.specs.Value.{valued}
use Rattle.valuation.proofs.valuation_value.Goals as goal
use Rattle.valuation.proofs.valuation_value.Goals.{then-nominal-gt-GREATEST_NOMINAL-via-then-nominal-gt-GREATEST_NOMINAL, then-nominal-gt-GREATEST_NOMINAL-via-else-nominal-gt-GREATEST_NOMINAL+then-not-is_legal}

pub returns-then-nominal-gt-GREATEST_NOMINAL : goal.returns-then-nominal-gt-GREATEST_NOMINAL
unfolding valued
returns-then-nominal-gt-GREATEST_NOMINAL c = elim c.then-nominal-gt-GREATEST_NOMINAL.branch [
  | then-nominal-gt-GREATEST_NOMINAL-via-then-nominal-gt-GREATEST_NOMINAL w ↦ search (rules, tests)
  | then-nominal-gt-GREATEST_NOMINAL-via-else-nominal-gt-GREATEST_NOMINAL+then-not-is_legal w ↦ search (rules, tests, and-false)
]

pub returns : goal.returns
unfolding valued
returns c = search (rules, tests)
