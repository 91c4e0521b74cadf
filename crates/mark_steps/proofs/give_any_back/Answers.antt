-- `mark_steps::give_any_back` meets its contract.
-- Assumes nothing.
use mathlib.Core.Path.{sym}
use borrow.Author.Tests.{eq-eqb}
use Rattle.book.specs.State.{state}
use Rattle.mark_steps.proofs.Moving.{none_back}
use Rattle.mark_steps.proofs.give_any_back.Goals as goal

pub returns-then-count-eq0 : goal.returns-then-count-eq0
returns-then-count-eq0 c =
    none_back (state c.args.book.now) c.args.e c.args.nominals.now (sym c.requires.1) (eq-eqb c.args.count 0 c.if-count-eq0.true)
