-- `due_pairs::is_due_pair` meets its contract.
-- Assumes nothing.
use Rattle.due_pairs.proofs.Returns.{partner_row, is_earlier, by_day}
use Rattle.due_pairs.proofs.is_due_pair.Goals as goal

pub get-requires-4 : goal.get-requires-4
get-requires-4 c = search (partner_row, c.in-Some.ensures)

pub returns-then-number-get : goal.returns-then-number-get
returns-then-number-get c = search (is_earlier, c.in-Some.ensures)

pub returns : goal.returns
returns c = search (by_day, c.in-Some.ensures)
