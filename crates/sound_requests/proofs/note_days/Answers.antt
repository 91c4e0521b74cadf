-- `sound_requests::note_days` meets its contract.
-- Assumes nothing.
use Rattle.sound_requests.proofs.Later.{settlement_open, closing_open}
use Rattle.sound_requests.proofs.note_days.Goals as goal

pub note_open_or_none-requires : goal.note_open_or_none-requires
note_open_or_none-requires c = search settlement_open

pub note_open_or_none-requires-2 : goal.note_open_or_none-requires-2
note_open_or_none-requires-2 c = search closing_open
