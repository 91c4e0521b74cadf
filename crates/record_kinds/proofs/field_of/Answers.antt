-- `record_kinds::field_of` meets its contract.
-- Assumes nothing.
use Rattle.record_kinds.proofs.Fields.{type_at}
use Rattle.record_kinds.proofs.field_of.Goals as goal

pub returns : goal.returns
returns c = search type_at
