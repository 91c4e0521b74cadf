-- `replay::run_one` meets its contract.
-- Assumes nothing.
use Rattle.replay.proofs.Stream.{one_read, one_record}
use Rattle.replay.proofs.run_one.Goals as goal

pub returns-then-what-ne0 : goal.returns-then-what-ne0
returns-then-what-ne0 c = search one_read

pub returns : goal.returns
returns c = search one_record
