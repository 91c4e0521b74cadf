-- `records::put_parties` meets its contract.
-- Assumes nothing.
use Rattle.records.proofs.Fop.{parties_put}
use Rattle.records.proofs.put_parties.Goals as goal

pub returns : goal.returns
returns c =
    parties_put c.args.fields.now c.args.part.now c.put_number.ensures c.put_number-2.ensures c.put_number-3.ensures c.put_number-4.ensures c.put_number-5.ensures
