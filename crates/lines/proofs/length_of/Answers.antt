-- `lines::length_of` meets its contract.
-- Assumes nothing.
use mathlib.Core.Path.{◌≡◌, ◌∙◌}
use Rattle.record_kinds.specs.Numbered.{kind_number}
use Rattle.record_kinds.proofs.Numbered.{kind_below}
use Rattle.lines.proofs.Cuts.{known_length, unknown_length}
use Rattle.lines.proofs.length_of.Goals as goal

pub returns-in-Ok-clause-some : goal.returns-in-Ok-clause-some
returns-in-Ok-clause-some c =
    let e : kind_number c.in-Ok.kind ≡ c.args.kind = c.in-Ok.ensures ∙ c.from.ensures in
    known_length c.args.kind (rw e at (kind_below c.in-Ok.kind)) (rw e at c.length_of.ensures)

pub returns-in-Err-clause-none : goal.returns-in-Err-clause-none
returns-in-Err-clause-none c = unknown_length c.args.kind (rw c.from.ensures at c.in-Err.ensures.0)
