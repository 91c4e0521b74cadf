-- `records::write` meets its contract.
-- Assumes nothing.
use mathlib.Core.Path.{refl, ap, ◌∙◌, sym}
use native.Mathlib.Omega.{arith}
use Rattle.std.proofs.lemmas.Result.{err_from_is_err_and}
use Rattle.answers.specs.Answers.{malformed, out_of_range}
use Rattle.record_kinds.specs.Kinds.{length_of}
use Rattle.record_kinds.proofs.Numbered.{kind_below}
use Rattle.records.proofs.Returns.{part_kept, part_filled, write_unknown, write_misfit, write_illegal, write_legal}
use Rattle.records.proofs.write.Goals as goal

pub returns-in_err-kind : goal.returns-in_err-kind
returns-in_err-kind c =
    let exit = err_from_is_err_and c.from_residual.result c.from_residual.ensures.1 in
    let code = write_unknown c.args.kind c.args.fields.now c.args.part.now c.in_err-kind.ensures.0 in
    record { value = rw (exit.1, exit.2, c.in_err-kind.ensures.1) code; part_after = part_kept malformed (λ z. omega arith) c.args.kind c.args.fields.now c.args.part.now code }

pub returns-then-part-length_of : goal.returns-then-part-length_of
returns-then-part-length_of c =
    let code = write_misfit c.args.kind c.args.fields.now c.args.part.now (c.length_of.ensures ∙ ap length_of c.in_ok-kind.ensures) c.if-part-length_of.true in
    record { value = code; part_after = part_kept malformed (λ z. omega arith) c.args.kind c.args.fields.now c.args.part.now code }

pub returns-then-not-are_in_ranges : goal.returns-then-not-are_in_ranges
returns-then-not-are_in_ranges c =
    let kind = c.in_ok-kind.ensures in
    let illegal = sym (rw kind at c.are_in_ranges.ensures) ∙ c.if-not-are_in_ranges.true in
    let code = write_illegal c.args.kind c.args.fields.now c.args.part.now (rw kind at (kind_below c.in_ok-kind.kind)) (c.if-part-length_of.false ∙ c.length_of.ensures ∙ ap length_of kind) illegal in
    record { value = code; part_after = part_kept out_of_range (λ z. omega arith) c.args.kind c.args.fields.now c.args.part.now code }

pub returns : goal.returns
returns c =
    let kind = c.in_ok-kind.ensures in
    let legal = sym (rw kind at c.are_in_ranges.ensures) ∙ c.if-not-are_in_ranges.false in
    let code = write_legal c.args.kind c.args.fields.now c.args.part.now (rw kind at (kind_below c.in_ok-kind.kind)) (c.if-part-length_of.false ∙ c.length_of.ensures ∙ ap length_of kind) legal in
    record { value = code; part_after = part_filled c.args.kind c.args.fields.now c.args.part.now refl code (rw kind at c.put_record.ensures) }
