-- `request_entry::enter_with_equal` meets its contract.
-- Assumes nothing.
use Rattle.request_entry.proofs.Rows.{equal_written}
use Rattle.request_entry.proofs.enter_with_equal.Goals as goal

pub returns : goal.returns
returns c =
    equal_written _ _ _ c.get-number.ensures c.take_row-i.ensures c.allow_partial-partial.ensures c.args.j c.fill_row.ensures
    c.write_partner.ensures c.set.ensures
