-- `securities::are_legal` meets its contract.
-- Assumes nothing.
use borrow.Author.Rules.{rules}
use Rattle.laws.proofs.Ranges.{all_over_range}
use Rattle.securities.specs.Security.{legal_at}
use Rattle.securities.proofs.are_legal.Goals as goal

pub returns : goal.returns
returns c = all_over_range (legal_at c.args.columns.now) _ _ _ c.all.ensures.ran (λ x b q k. search rules)
