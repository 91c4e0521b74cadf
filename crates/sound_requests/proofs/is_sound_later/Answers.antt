-- `sound_requests::is_sound_later` meets its contract.
-- Assumes nothing.
use Rattle.sound_requests.proofs.Later.{later_not_named, later_number, by_cancel}
use Rattle.sound_requests.proofs.is_sound_later.Goals as goal

pub returns-then-get-i : goal.returns-then-get-i
returns-then-get-i c = search later_not_named

pub returns-then-get : goal.returns-then-get
returns-then-get c = search by_cancel

pub returns-else-get : goal.returns-else-get
returns-else-get c = search later_number
