-- `request_search::own_request` meets its contract.
-- Assumes nothing.
use native.Mathlib.Omega.{arith}
use borrow.Author.Rules.{rules}
use Rattle.laws.proofs.Found.{found_over_range}
use Rattle.book.specs.State.{state}
use Rattle.rules.specs.Requesting.{is_own_request}
use Rattle.request_search.proofs.own_request.Goals as goal

pub returns : goal.returns
returns c = found_over_range (is_own_request (state c.args.book.now) c.args.p c.args.number) _ _ _ (omega arith) c.find.ensures.ran (λ x y q k. search rules)
