-- `desk::Desk::new` meets its contract: the book starts as zero bytes.
-- Assumes nothing.
use Rattle.std.proofs.Common.{refl}
use Rattle.lines.proofs.Program.{zero_bytes}
use Rattle.desk.proofs.Desk.new.Goals as goal

pub returns : goal.returns
returns c = (zero_bytes, c.new.ensures, refl)
