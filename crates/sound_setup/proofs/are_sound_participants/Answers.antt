-- `sound_setup::are_sound_participants` meets its contract: the test of each row decides.
-- Assumes nothing.
use borrow.Author.Rules.{rules}
use Rattle.laws.proofs.Ranges.{all_over_range}
use Rattle.book.specs.State.{state}
use Rattle.rules.specs.ByRow.{sound_participant}
use Rattle.sound_setup.proofs.are_sound_participants.Goals as goal

pub returns : goal.returns
returns c = all_over_range (sound_participant (state c.args.book.now)) _ _ _ c.all.ensures.ran (λ x y q k. search rules)
