-- `reads::reads_account` meets its contract: the outcome as an answer.
-- Assumes nothing.
use mathlib.Core.Path.{refl, ◌∙◌}
use Rattle.rules.specs.Reads.{account}
use Rattle.reads.proofs.Codes.{whole_answer}
use Rattle.reads.proofs.reads_account.Goals as goal

pub returns : goal.returns
returns c = c.answer_of.ensures ∙ whole_answer c.args.book.now (account c.args.participant c.args.security) 1 _ refl c.account.ensures.code c.account.ensures.values
