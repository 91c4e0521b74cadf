-- `records::put_fields` meets its contract: up to the field j the part is the record.
-- Assumes nothing.
use native.Mathlib.Omega.{arith}
use borrow.Author.Rules.{rules}
use Rattle.record_kinds.proofs.Numbered.{kind_below}
use Rattle.record_kinds.proofs.Fields.{start_first, length_some, place_next, place_inside, place_fits, field_usual}
use Rattle.records.proofs.Images.{fill_start, fill_next, fill_end}
use Rattle.records.proofs.put_fields.Goals as goal

pub put_number-requires : goal.put_number-requires
put_number-requires c = (omega arith, omega (arith, length_some _ c.requires))

pub loop-j-init : goal.loop-j-init
loop-j-init c = (omega arith, search start_first, search rules, fill_start _ _ c.args.part.now (kind_below c.args.kind) (rw c.from.ensures at c.put_number.ensures))

pub put_number-requires-in-loop-j : goal.put_number-requires-in-loop-j
put_number-requires-in-loop-j c = (search place_inside, search field_usual)

pub overflow_add-at : goal.overflow_add-at
overflow_add-at c = search place_fits

pub loop-j-preserved : goal.loop-j-preserved
loop-j-preserved c = (omega arith, search place_next, search rules, search fill_next)

pub returns : goal.returns
returns c = search fill_end
