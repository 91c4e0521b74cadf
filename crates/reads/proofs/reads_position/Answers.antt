-- `reads::reads_position` meets its contract: the outcome as an answer.
-- Assumes nothing.
use mathlib.Core.Path.{refl, ◌∙◌}
use Rattle.rules.specs.Reads.{position}
use Rattle.reads.proofs.Codes.{whole_answer}
use Rattle.reads.proofs.reads_position.Goals as goal

pub returns : goal.returns
returns c = c.answer_of.ensures ∙ whole_answer c.args.book.now (position c.args.exposure c.args.security) 1 _ refl c.position.ensures.code c.position.ensures.values
