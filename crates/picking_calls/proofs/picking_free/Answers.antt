-- `picking_calls::picking_free` meets its contract.
-- Assumes nothing.
use mathlib.Core.Path.{sym, ◌∙◌}
use borrow.Author.Rules.{rules}
use borrow.Author.Tests.{tests}
use Rattle.picking_calls.specs.Answers.{freed_down}
use Rattle.picking_calls.proofs.Legal.{free_in_bounds, free_within}
use Rattle.picking_calls.proofs.picking_free.Goals as goal

pub returns-then-not-is_legal_free : goal.returns-then-not-is_legal_free
unfolding freed_down
returns-then-not-is_legal_free c = search (rules, tests)

pub free-requires : goal.free-requires
free-requires c =
    let a = c.args in
    let e = sym c.is_legal_free.ensures ∙ c.if-not-is_legal_free.false in
    (free_in_bounds a.columns.now a.position.now a.exposure e, free_within a.columns.now a.position.now a.exposure e)

pub returns : goal.returns
unfolding freed_down
returns c = search (rules, tests)
