-- `big_endian::put_number` meets its contract.
-- Assumes nothing.
use Rattle.big_endian.proofs.Eights.{part_put}
use Rattle.big_endian.proofs.put_number.Goals as goal

pub returns : goal.returns
returns g c = part_put c.args.part.now c.args.at g.row.W c.args.x c.requires.0 c.to_be_bytes.ensures c.copy_from_slice.ensures.after
