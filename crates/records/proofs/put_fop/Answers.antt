-- `records::put_fop` meets its contract.
-- Assumes nothing.
use Rattle.records.proofs.Fop.{fop_put}
use Rattle.records.proofs.put_fop.Goals as goal

pub returns : goal.returns
returns c =
    fop_put c.args.fields.now c.args.part.now c.requires c.put_parties.ensures c.put_number.ensures c.put_number-2.ensures c.put_number-3.ensures c.put_number-4.ensures
