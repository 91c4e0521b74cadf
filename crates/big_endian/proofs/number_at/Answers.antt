-- `big_endian::number_at` meets its contract.
-- Assumes nothing.
use native.Mathlib.Omega.{arith}
use Rattle.laws.proofs.Numbers.{number_small}
use mathlib.Core.Path.{◌∙◌}
use Rattle.big_endian.proofs.Eights.{behind_zeros}
use Rattle.big_endian.proofs.number_at.Goals as goal

pub returns : goal.returns
returns g c =
    let here = c.from_be_bytes.ensures ∙ behind_zeros c.args.bytes.now g.row.W c.args.at c.requires.0 c.requires.1 c.copy_from_slice.ensures.after in
    (here, rw here (number_small c.args.bytes.now c.args.at g.row.W (λ i. omega (arith, c.type_inv.bytes i))))
