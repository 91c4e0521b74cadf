-- `records::put_record` meets its contract.
-- Assumes nothing.
use mathlib.Core.Path.{ap}
use Rattle.record_kinds.specs.Numbered.{kind_number}
use Rattle.records.proofs.Fop.{fop_length}
use Rattle.records.proofs.put_record.Goals as goal

pub put_fop-requires : goal.put_fop-requires
put_fop-requires c = fop_length (ap kind_number c.in-Fop.is) c.requires
