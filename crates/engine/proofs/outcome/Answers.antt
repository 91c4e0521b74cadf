-- `engine::outcome` meets its contract: refused by the book's length, by its soundness, by the reader, by a rule; or accepted.
-- Assumes nothing.
use mathlib.Core.Path.{refl, ap}
use native.Mathlib.Omega.{arith}
use lib.ListN.{length}
use Rattle.answers.specs.declared.Refusal.TheVariants.{BookLength}
use Rattle.std.proofs.lemmas.Result.{err_from_is_err_and}
use Rattle.engine.proofs.Outcomes.{refused_book, refused_answer, other_length, by_damage, by_reader, by_code, taken_record, accepted_record, accepted_book, accepted_answer}
use Rattle.engine.proofs.outcome.Goals as goal

pub returns-in_default-clause-left : goal.returns-in_default-clause-left
returns-in_default-clause-left c = refused_book c.args.book.now c.args.bytes.now BookLength (other_length c.args.book.now c.args.bytes.now c.in_default.ensures.cases)

pub returns-in_default-clause-value : goal.returns-in_default-clause-value
returns-in_default-clause-value c = refused_answer c.args.book.now c.args.bytes.now BookLength (other_length c.args.book.now c.args.bytes.now c.in_default.ensures.cases)

pub returns-in_err-check_call-clause-left : goal.returns-in_err-check_call-clause-left
returns-in_err-check_call-clause-left c =
    refused_book c.args.book.now c.args.bytes.now c.in_err-check_call.field-0.0 (by_damage c.args.book.now c.args.bytes.now c.in_err-check_call.field-0.0 c.in_err-check_call.ensures)

pub returns-in_err-check_call-clause-value : goal.returns-in_err-check_call-clause-value
returns-in_err-check_call-clause-value c =
    let p = err_from_is_err_and c.from_residual.result c.from_residual.ensures.1 in
    rw (p.1, p.2) (refused_answer c.args.book.now c.args.bytes.now c.in_err-check_call.field-0.0 (by_damage c.args.book.now c.args.bytes.now c.in_err-check_call.field-0.0 c.in_err-check_call.ensures))

pub returns-in_err-legal-clause-left : goal.returns-in_err-legal-clause-left
returns-in_err-legal-clause-left c =
    rw (← c.in-Some.ensures.cases.same) (refused_book c.in-Some.book.now c.args.bytes.now c.in_err-legal.field-0.0 (by_reader c.in-Some.book.now c.args.bytes.now (rw (← c.in-Some.ensures.cases.same) at c.in_ok-check_call.ensures) c.in_err-legal.field-0.0 c.in_err-legal.ensures))

pub returns-in_err-legal-clause-value : goal.returns-in_err-legal-clause-value
returns-in_err-legal-clause-value c =
    let p = err_from_is_err_and c.from_residual-in_err-legal.result c.from_residual-in_err-legal.ensures.1 in
    rw (p.1, p.2, ← c.in-Some.ensures.cases.same) (refused_answer c.in-Some.book.now c.args.bytes.now c.in_err-legal.field-0.0 (by_reader c.in-Some.book.now c.args.bytes.now (rw (← c.in-Some.ensures.cases.same) at c.in_ok-check_call.ensures) c.in_err-legal.field-0.0 c.in_err-legal.ensures))

pub check-requires : goal.check-requires
check-requires c = taken_record c.in-Some.book.now c.args.bytes.now (rw (← c.in-Some.ensures.cases.same) at c.in_ok-check_call.ensures) c.in_ok-legal.legal.kind c.in_ok-legal.legal.fields c.in_ok-legal.ensures

pub returns-in_err-check-clause-left : goal.returns-in_err-check-clause-left
returns-in_err-check-clause-left c =
    rw (← c.in-Some.ensures.cases.same) (refused_book c.in-Some.book.now c.args.bytes.now c.in_err-check.field-0.0 (by_code c.in-Some.book.now c.args.bytes.now (rw (← c.in-Some.ensures.cases.same) at c.in_ok-check_call.ensures) c.in_ok-legal.legal.kind c.in_ok-legal.legal.fields c.in_ok-legal.ensures c.in_err-check.ensures))

pub returns-in_err-check-clause-value : goal.returns-in_err-check-clause-value
returns-in_err-check-clause-value c =
    let p = err_from_is_err_and c.from_residual-in_err-check.result c.from_residual-in_err-check.ensures.1 in
    rw (p.1, p.2, ← c.in-Some.ensures.cases.same) (refused_answer c.in-Some.book.now c.args.bytes.now c.in_err-check.field-0.0 (by_code c.in-Some.book.now c.args.bytes.now (rw (← c.in-Some.ensures.cases.same) at c.in_ok-check_call.ensures) c.in_ok-legal.legal.kind c.in_ok-legal.legal.fields c.in_ok-legal.ensures c.in_err-check.ensures))

pub take_step-requires : goal.take_step-requires
take_step-requires c = accepted_record c.in-Some.book.now c.args.bytes.now (rw (← c.in-Some.ensures.cases.same) at c.in_ok-check_call.ensures) c.in_ok-legal.legal.kind c.in_ok-legal.legal.fields c.in_ok-legal.ensures c.in_ok-check.ensures refl

pub returns-clause-left : goal.returns-clause-left
returns-clause-left c =
    rw (← c.in-Some.ensures.cases.same) (accepted_book c.in-Some.book.now c.args.bytes.now (rw (← c.in-Some.ensures.cases.same) at c.in_ok-check_call.ensures) c.in_ok-legal.legal.kind c.in_ok-legal.legal.fields c.in_ok-legal.ensures c.in_ok-check.ensures refl c.take_step.new.book (omega (arith, c.take_step.auto.book, ap length c.in-Some.ensures.cases.same)) (λ i. (c.type_inv.book i).fits) c.take_step.ensures.1)

pub returns-clause-value : goal.returns-clause-value
returns-clause-value c =
    rw (← c.in-Some.ensures.cases.same) (accepted_answer c.in-Some.book.now c.args.bytes.now (rw (← c.in-Some.ensures.cases.same) at c.in_ok-check_call.ensures) c.in_ok-legal.legal.kind c.in_ok-legal.legal.fields c.in_ok-legal.ensures c.in_ok-check.ensures refl c.take_step.result c.take_step.ensures.0)
