-- `sound_exposures::is_distinct_key` meets its contract: the comparison with each before decides.
-- Assumes nothing.
use mathlib.Core.Path.{◌∙◌}
use borrow.Author.Rules.{rules}
use Rattle.laws.proofs.Ranges.{all_over_range}
use Rattle.book.specs.State.{state}
use Rattle.rules.specs.ByRow.{other_key}
use Rattle.sound_exposures.proofs.Returns.{keys_of}
use Rattle.sound_exposures.proofs.is_distinct_key.Goals as goal

pub returns-else-get-eq0 : goal.returns-else-get-eq0
returns-else-get-eq0 c =
    all_over_range (other_key (state c.args.book.now) c.args.e) _ _ _ c.all.ensures.ran (λ x y q k. search rules)
    ∙ keys_of (state c.args.book.now) c.args.e c.get.ensures c.if-get-eq0.false
