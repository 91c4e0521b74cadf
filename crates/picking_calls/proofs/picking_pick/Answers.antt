-- `picking_calls::picking_pick` meets its contract.
-- Assumes nothing.
use mathlib.Core.Path.{sym, ◌∙◌}
use borrow.Author.Rules.{rules}
use borrow.Author.Tests.{tests}
use Rattle.picking.proofs.Picks.{picked_eligible}
use Rattle.picking_calls.specs.Answers.{picked_for}
use Rattle.picking_calls.proofs.Legal.{pick_ready}
use Rattle.picking_calls.proofs.picking_pick.Goals as goal

pub returns-then-not-is_legal_pick : goal.returns-then-not-is_legal_pick
unfolding picked_for
returns-then-not-is_legal_pick c = search (rules, tests)

pub returns-then-not-are_legal_days : goal.returns-then-not-are_legal_days
unfolding picked_for
returns-then-not-are_legal_days c = search (rules, tests)

pub eligibility_on-x-requires : goal.eligibility_on-x-requires
eligibility_on-x-requires c =
    (pick_ready _ _ _ _ c.is_legal_pick.ensures c.if-not-is_legal_pick.false).oldest_le

pub pick_for-requires : goal.pick_for-requires
pick_for-requires c =
    let ready = pick_ready _ _ _ _ c.is_legal_pick.ensures c.if-not-is_legal_pick.false in
    (ready.in_bounds, ready.within)

pub returns : goal.returns
unfolding picked_for
returns c =
    rw (sym c.is_legal_pick.ensures ∙ c.if-not-is_legal_pick.false, sym c.are_legal_days.ensures ∙ c.if-not-are_legal_days.false, c.pick_for.ensures, picked_eligible _ _ _ c.eligibility_on-x.ensures)
