-- `reads::reads_basket` meets its contract: the outcome as an answer.
-- Assumes nothing.
use mathlib.Core.Path.{refl, ◌∙◌}
use Rattle.rules.specs.Reads.{basket}
use Rattle.reads.proofs.Codes.{whole_answer}
use Rattle.reads.proofs.reads_basket.Goals as goal

pub returns : goal.returns
returns c = c.answer_of.ensures ∙ whole_answer c.args.book.now (basket c.args.b) 4 _ refl c.basket.ensures.code c.basket.ensures.values
