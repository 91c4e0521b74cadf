-- `day_change::copy` meets its contract.
-- Assumes nothing.
use native.Mathlib.Omega.{arith}
use Rattle.book.specs.Tables.{number}
use Rattle.book.proofs.Images.{state_fits}
use Rattle.day_change.proofs.copy.Goals as goal

pub set-requires : goal.set-requires
set-requires c =
    let fits = (state_fits c.args.book.now (omega arith) c.fits-book).fits (number c.args.from) c.args.i c.requires.1 in
    (c.requires.0, rw (c.get-x.ensures, ← c.requires.2) fits)

pub returns : goal.returns
returns c = rw (c.set.ensures, c.get-x.ensures)
