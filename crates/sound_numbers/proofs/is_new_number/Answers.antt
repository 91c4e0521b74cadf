-- `sound_numbers::is_new_number` meets its contract.
-- Assumes nothing.
use borrow.Author.Rules.{rules}
use Rattle.sound_numbers.proofs.Numbers.{not_marked, marked_next}
use Rattle.sound_numbers.proofs.is_new_number.Goals as goal

pub returns-then-not-replace : goal.returns-then-not-replace
returns-then-not-replace c = (search not_marked, search marked_next)

pub returns-else-not-replace : goal.returns-else-not-replace
returns-else-not-replace c = (search rules, search marked_next)
