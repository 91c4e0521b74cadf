-- `mark_steps::ineligible` meets its contract: each security is looked at.
-- Assumes nothing.
use borrow.Author.Rules.{rules}
use Rattle.book.proofs.Filling.{filled_from_fn}
use Rattle.mark_steps.specs.Stepped.{ineligible_in}
use Rattle.mark_steps.proofs.ineligible.Goals as goal

pub returns : goal.returns
returns c =
    filled_from_fn _ _ (ineligible_in c.args.position.now c.args.columns.now c.args.x) 64 (λ i y q l k. search rules) c.from_fn.result c.from_fn.ensures.items
