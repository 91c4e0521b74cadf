-- `sound_requests::are_sixteen_sound` meets its contract.
-- Assumes nothing.
use Rattle.sound_requests.proofs.Blocks.{by_tables}
use Rattle.sound_requests.proofs.are_sixteen_sound.Goals as goal

pub returns-then-are_rows_empty : goal.returns-then-are_rows_empty
returns-then-are_rows_empty c = search by_tables
