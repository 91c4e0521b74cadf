-- `request_rows::write_partner` meets its contract.
-- Assumes nothing.
use mathlib.Core.Path.{refl}
use Rattle.laws.proofs.Cases.{counted}
use Rattle.request_rows.proofs.write_partner.Goals as goal

pub returns : goal.returns
returns c =
    rw (c.set-2.ensures, c.set.ensures, c.mark_of.ensures, counted c.args.partial c.from.ensures refl)
