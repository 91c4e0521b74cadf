-- `request_entry::enter_with_taker` meets its contract.
-- Assumes nothing.
use Rattle.laws.proofs.Found.{found_some}
use Rattle.request_entry.proofs.Rows.{taker_written}
use Rattle.request_entry.proofs.enter_with_taker.Goals as goal

pub returns : goal.returns
returns c =
    taker_written _ _ _ c.get-number.ensures c.take_row-i.ensures c.allow_partial-partial.ensures
    (found_some 256 _ c.free_row.ensures c.unwrap-j.ensures).0 c.fill_row.ensures c.set.ensures c.fill_row-2.ensures c.set-2.ensures
