-- `reads::reads_exposure` meets its contract: the outcome as an answer.
-- Assumes nothing.
use mathlib.Core.Path.{refl, ◌∙◌}
use Rattle.rules.specs.Reads.{exposure}
use Rattle.reads.proofs.Codes.{whole_answer}
use Rattle.reads.proofs.reads_exposure.Goals as goal

pub returns : goal.returns
returns c = c.answer_of.ensures ∙ whole_answer c.args.book.now (exposure c.args.e) 5 _ refl c.exposure.ensures.code c.exposure.ensures.values
