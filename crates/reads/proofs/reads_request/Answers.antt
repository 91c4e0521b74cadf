-- `reads::reads_request` meets its contract: the outcome as an answer.
-- Assumes nothing.
use mathlib.Core.Path.{refl, ◌∙◌}
use Rattle.rules.specs.Reads.{request}
use Rattle.reads.proofs.Codes.{whole_answer}
use Rattle.reads.proofs.reads_request.Goals as goal

pub returns : goal.returns
returns c = c.answer_of.ensures ∙ whole_answer c.args.book.now (request c.args.number) 14 _ refl c.request.ensures.code c.request.ensures.values
