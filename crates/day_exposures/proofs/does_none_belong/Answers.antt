-- `day_exposures::does_none_belong` meets its contract.
-- Assumes nothing.
use mathlib.Core.Path.{ap, ◌∙◌}
use mathlib.Core.Bool.{not, not-not}
use borrow.Author.Rules.{rules}
use Rattle.laws.specs.Search.{all}
use Rattle.laws.proofs.Ranges.{any_over_range}
use Rattle.book.specs.State.{state}
use Rattle.rules.specs.DayChange.{belongs}
use Rattle.day_exposures.specs.Parts.{is_not_of}
use Rattle.day_exposures.proofs.does_none_belong.Goals as goal

pub returns : goal.returns
returns c =
    ap not (any_over_range {a = 0} {b = 256} (belongs (state c.args.book.now) c.args.e) _ _ _ c.any.ensures.ran (λ x b q k. search rules))
    ∙ not-not (all (is_not_of (state c.args.book.now) c.args.e) 256 0)
