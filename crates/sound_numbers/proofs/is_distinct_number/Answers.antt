-- `sound_numbers::is_distinct_number` meets its contract: the comparison with each before decides.
-- Assumes nothing.
use mathlib.Core.Path.{◌∙◌}
use borrow.Author.Rules.{rules}
use Rattle.laws.proofs.Ranges.{all_over_range}
use Rattle.book.specs.State.{state}
use Rattle.rules.specs.ByRow.{differs}
use Rattle.sound_numbers.proofs.Numbers.{numbers_of_lem}
use Rattle.sound_numbers.proofs.is_distinct_number.Goals as goal

pub returns-else-get-eq0 : goal.returns-else-get-eq0
returns-else-get-eq0 c =
    all_over_range (differs (state c.args.book.now) c.args.i) _ _ _ c.all.ensures.ran (λ x y q k. search rules)
    ∙ numbers_of_lem (state c.args.book.now) c.args.i c.get.ensures c.if-get-eq0.false
