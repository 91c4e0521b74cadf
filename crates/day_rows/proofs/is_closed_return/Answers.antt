-- `day_rows::is_closed_return` meets its contract.
-- Assumes nothing.
use mathlib.Core.Path.{sym, ◌∙◌}
use native.Mathlib.Omega.{arith}
use Rattle.day_rows.proofs.Returns.{no_return, return_unused, by_exposure}
use Rattle.day_rows.proofs.is_closed_return.Goals as goal

pub returns-then-get : goal.returns-then-get
returns-then-get c = search no_return

pub returns-then-get-eq0 : goal.returns-then-get-eq0
returns-then-get-eq0 c = search return_unused

pub is_exposure_closed-requires : goal.is_exposure_closed-requires
is_exposure_closed-requires c =
    let near = c.requires.1.named (sym c.get.ensures ∙ c.if-get.false) in
    omega (arith, c.get-3.ensures)

pub returns : goal.returns
returns c = search by_exposure
