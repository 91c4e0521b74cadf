-- `sound_exposures::is_new_key` meets its contract.
-- Assumes nothing.
use borrow.Author.Rules.{rules}
use Rattle.sound_exposures.proofs.Keys.{key_not_marked, keys_marked_next}
use Rattle.sound_exposures.proofs.is_new_key.Goals as goal

pub returns-then-not-replace : goal.returns-then-not-replace
returns-then-not-replace c = (search key_not_marked, search keys_marked_next)

pub returns-else-not-replace : goal.returns-else-not-replace
returns-else-not-replace c = (search rules, search keys_marked_next)
