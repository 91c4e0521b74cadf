-- `mark_steps::may_all_stay` meets its contract.
-- Assumes nothing.
use borrow.Author.Rules.{rules}
use Rattle.laws.proofs.Ranges.{all_over_range}
use Rattle.book.specs.State.{state}
use Rattle.rules.specs.Stock.{position_of}
use Rattle.mark_steps.specs.Stepped.{may_stay}
use Rattle.mark_steps.proofs.may_all_stay.Goals as goal

pub returns : goal.returns
returns c = all_over_range (may_stay (position_of (state c.args.book.now) c.args.e) c.args.columns.now c.args.x) _ _ _ c.all.ensures.ran (λ x b q k. search rules)
