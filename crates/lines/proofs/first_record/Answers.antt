-- `lines::first_record` meets its contract.
-- Assumes nothing.
use Rattle.std.proofs.Common.{arith, sym}
use Rattle.std.proofs.lemmas.Grind.{common_steps}
use Rattle.lines.proofs.Cuts.{no_record, unknown_record, first_fits}
use Rattle.lines.proofs.first_record.Goals as goal

pub returns-in_err-kind-clause-none : goal.returns-in_err-kind-clause-none
returns-in_err-kind-clause-none c = grind (arith, common_steps, no_record)

pub returns-in_err-n-clause-none : goal.returns-in_err-n-clause-none
returns-in_err-n-clause-none c = rw c.from_residual-in_err-n.ensures (unknown_record c.args.bytes.now (sym c.in_ok-kind.ensures.value) c.in_err-n.ensures.none)

pub returns-clause-some : goal.returns-clause-some
returns-clause-some c =
    let length = c.in_ok-n.ensures.some in
    (first_fits c.args.bytes.now c.then_some.result (sym c.in_ok-kind.ensures.value) length.0 length.1 c.then_some.ensures).0

pub returns-clause-none : goal.returns-clause-none
returns-clause-none c =
    let length = c.in_ok-n.ensures.some in
    (first_fits c.args.bytes.now c.then_some.result (sym c.in_ok-kind.ensures.value) length.0 length.1 c.then_some.ensures).1
