-- `picking_calls::is_legal_pick` meets its contract: its tests, joined one by one.
-- Assumes nothing.
use mathlib.Core.Path.{◌≡◌, ◌∙◌}
use mathlib.Core.Bool.{not, ◌&&◌}
use lib.Dec.{eqb, leb}
use borrow.Author.Rules.{rules}
use borrow.Author.Tests.{tests}
use Rattle.securities.specs.Position.{legal_nominals}
use Rattle.securities.specs.Security.{legal_securities}
use Rattle.picking_calls.proofs.Legal.{pick_tests}
use Rattle.picking_calls.proofs.is_legal_pick.Goals as goal
use Rattle.picking_calls.proofs.is_legal_pick.Goals.{then-are_nominals, else-are_nominals, then-are_legal, else-are_legal, then-basket-ne0, else-basket-ne0}

pub returns-then-basket-le255 : goal.returns-then-basket-le255
returns-then-basket-le255 c =
    let a = c.args in
    let first : c.if-are_nominals.value ≡ (legal_nominals a.account.now && legal_securities a.columns.now) = elim c.if-are_nominals.branch [
      | then-are_nominals w ↦ search (rules, tests)
      | else-are_nominals w ↦ search (rules, tests)
    ] in
    let second : c.if-are_legal.value ≡ (c.if-are_nominals.value && not (eqb a.basket.map 0)) = elim c.if-are_legal.branch [
      | then-are_legal w ↦ search (rules, tests)
      | else-are_legal w ↦ search (rules, tests)
    ] in
    let third : c.if-basket-ne0.value ≡ (c.if-are_legal.value && leb a.basket.oldest 255) = elim c.if-basket-ne0.branch [
      | then-basket-ne0 w ↦ search (rules, tests)
      | else-basket-ne0 w ↦ search (rules, tests)
    ] in
    let all = pick_tests a.columns.now a.account.now a.basket a.amount first second third in
    rw c.if-basket-le255.true at all

pub returns-else-basket-le255 : goal.returns-else-basket-le255
returns-else-basket-le255 c =
    let a = c.args in
    let first : c.if-are_nominals.value ≡ (legal_nominals a.account.now && legal_securities a.columns.now) = elim c.if-are_nominals.branch [
      | then-are_nominals w ↦ search (rules, tests)
      | else-are_nominals w ↦ search (rules, tests)
    ] in
    let second : c.if-are_legal.value ≡ (c.if-are_nominals.value && not (eqb a.basket.map 0)) = elim c.if-are_legal.branch [
      | then-are_legal w ↦ search (rules, tests)
      | else-are_legal w ↦ search (rules, tests)
    ] in
    let third : c.if-basket-ne0.value ≡ (c.if-are_legal.value && leb a.basket.oldest 255) = elim c.if-basket-ne0.branch [
      | then-basket-ne0 w ↦ search (rules, tests)
      | else-basket-ne0 w ↦ search (rules, tests)
    ] in
    let all = pick_tests a.columns.now a.account.now a.basket a.amount first second third in
    c.if-basket-le255.false ∙ rw c.if-basket-le255.false at all
