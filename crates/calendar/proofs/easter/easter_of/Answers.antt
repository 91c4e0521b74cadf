-- `calendar::easter_of` meets its contract: the table is right.
-- Assumes nothing.
use Rattle.calendar.proofs.EasterTable.{table, table_right}
use Rattle.calendar.proofs.easter.easter_of.Goals as goal

pub returns : goal.returns
unfolding table
returns c = table_right c.args.k c.requires
