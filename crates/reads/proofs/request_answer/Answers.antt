-- `reads::request_answer` meets its contract: each number is of its table.
-- Assumes nothing.
use borrow.Author.Rules.{rules}
use Rattle.book.specs.State.{state}
use Rattle.book.proofs.Filling.{filled_from_fn}
use Rattle.reads.specs.Entries.{request_number}
use Rattle.reads.proofs.request_answer.Goals as goal

pub returns : goal.returns
returns c =
    filled_from_fn _ _ (request_number (state c.args.book.now) c.args.i) 15 (λ i y q l k. search rules) c.from_fn.result c.from_fn.ensures.items
