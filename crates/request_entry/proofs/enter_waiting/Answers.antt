-- `request_entry::enter_waiting` meets its contract.
-- Assumes nothing.
use Rattle.request_entry.proofs.Rows.{waiting_written}
use Rattle.request_entry.proofs.enter_waiting.Goals as goal

pub returns : goal.returns
returns c = waiting_written _ _ _ c.get-number.ensures c.take_row-i.ensures c.fill_row.ensures c.set.ensures
