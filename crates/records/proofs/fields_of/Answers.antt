-- `records::fields_of` meets its contract: the places below j are filled.
-- Assumes nothing.
use mathlib.Core.Path.{◌≡◌}
use native.Mathlib.Omega.{arith}
use Rattle.laws.proofs.Filled.{filled_first}
use Rattle.record_kinds.specs.Kinds.{places}
use Rattle.record_kinds.proofs.Fields.{start_first, place_next, place_inside, place_fits, field_usual}
use Rattle.records.proofs.Places.{places_next}
use Rattle.records.proofs.fields_of.Goals as goal

pub loop-j-init : goal.loop-j-init
loop-j-init c = (omega arith, search start_first, search filled_first)

pub number_at-requires : goal.number_at-requires
number_at-requires c = (search place_inside, search field_usual)

pub overflow_add-at : goal.overflow_add-at
overflow_add-at c = search place_fits

pub loop-j-preserved : goal.loop-j-preserved
loop-j-preserved c = (omega arith, search place_next, search places_next)

pub returns : goal.returns
returns c = let e : c.loop-j.j ≡ places = omega arith in rw e at c.loop-j.invariant.2
