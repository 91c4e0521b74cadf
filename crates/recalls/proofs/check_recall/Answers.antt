-- `recalls::check_recall` meets its contract.
-- Assumes nothing.
use mathlib.Core.Path.{refl}
use native.Mathlib.Omega.{arith}
use Rattle.std.proofs.lemmas.Result.{err_from_is_err_and}
use Rattle.book.specs.State.{state}
use Rattle.answers.proofs.Refusals.{number_some as refused}
use Rattle.recalls.proofs.Returns.{code_holds, all_passed, code_none, code_refused}
use Rattle.recalls.proofs.check_recall.Goals as goal

pub returns-in_err-check_holds : goal.returns-in_err-check_holds
returns-in_err-check_holds c =
    let exit = err_from_is_err_and c.from_residual-in_err-check_holds.result c.from_residual-in_err-check_holds.ensures.1 in
    rw (exit.1, exit.2) (code_holds (state c.args.book.now) c.args.record.now.fields c.in_ok-check_names.ensures refl c.in_err-check_holds.ensures (refused c.in_err-check_holds.field-0.0))

pub is_accepted-requires : goal.is_accepted-requires
is_accepted-requires c =
    record {
      long = (omega arith);
      sound_book = c.requires.1;
      kind_is = c.requires.0;
      recallable = all_passed (state c.args.book.now) c.args.record.now.fields c.in_ok-check_names.ensures refl c.in_ok-check_holds.ensures refl;
    }

pub returns-then-is_accepted : goal.returns-then-is_accepted
returns-then-is_accepted c =
    code_none (state c.args.book.now) c.args.record.now.fields c.in_ok-check_names.ensures refl c.in_ok-check_holds.ensures refl c.is_accepted.ensures c.if-is_accepted.true

pub returns-else-is_accepted : goal.returns-else-is_accepted
returns-else-is_accepted c =
    code_refused (state c.args.book.now) c.args.record.now.fields c.in_ok-check_names.ensures refl c.in_ok-check_holds.ensures refl c.is_accepted.ensures c.if-is_accepted.false
