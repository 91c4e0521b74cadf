-- `records::read` meets its contract.
-- Assumes nothing.
use mathlib.Core.Path.{refl, sym, ap, ◌∙◌}
use Rattle.std.proofs.lemmas.Result.{err_from_is_err_and}
use Rattle.record_kinds.specs.Kinds.{length_of}
use Rattle.answers.specs.Refusals.{outcome_code}
use Rattle.records.specs.Reading.{refused_reading}
use Rattle.records.proofs.Returns.{first_is, first_none, read_empty, read_unknown, read_misfit, read_made}
use Rattle.records.proofs.read.Goals as goal

pub returns-in_err-first : goal.returns-in_err-first
returns-in_err-first c =
    let exit = err_from_is_err_and c.from_residual.result c.from_residual.ensures.1 in
    let none = c.in_err-first.ensures.ok_part in
    let refusal = rw none at c.in_err-first.ensures.value in
    rw (exit.1, exit.2) (read_empty c.args.bytes.now (first_none c.args.bytes.now c.first.ensures.value none) (ap refused_reading (ap outcome_code refusal)))

pub returns-in_err-kind : goal.returns-in_err-kind
returns-in_err-kind c =
    let exit = err_from_is_err_and c.from_residual-in_err-kind.result c.from_residual-in_err-kind.ensures.1 in
    let first = first_is c.args.bytes.now c.first.ensures.value c.in_ok-first.ensures.ok_part in
    let large = rw (c.from.ensures, ← first) at c.in_err-kind.ensures.0 in
    rw (exit.1, exit.2, c.in_err-kind.ensures.1) (read_unknown c.args.bytes.now large refl)

pub returns-then-bytes-length_of : goal.returns-then-bytes-length_of
returns-then-bytes-length_of c =
    let first = first_is c.args.bytes.now c.first.ensures.value c.in_ok-first.ensures.ok_part in
    let kind = first ∙ sym (c.in_ok-kind.ensures ∙ c.from.ensures) in
    read_misfit c.args.bytes.now (c.length_of.ensures ∙ ap length_of (sym kind)) c.if-bytes-length_of.true refl

pub returns : goal.returns
returns c =
    let first = first_is c.args.bytes.now c.first.ensures.value c.in_ok-first.ensures.ok_part in
    let kind = first ∙ sym (c.in_ok-kind.ensures ∙ c.from.ensures) in
    read_made c.args.bytes.now c.in_ok-kind.kind c.new.result kind (c.if-bytes-length_of.false ∙ c.length_of.ensures) c.fields_of.ensures c.new.ensures
