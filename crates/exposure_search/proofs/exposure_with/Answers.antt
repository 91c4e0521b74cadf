-- `exposure_search::exposure_with` meets its contract: the least row with the key.
-- Assumes nothing.
use borrow.Author.Rules.{rules}
use native.Mathlib.Omega.{arith}
use Rattle.laws.proofs.Found.{found_over_range}
use Rattle.book.specs.State.{state}
use Rattle.exposure_search.specs.Keys.{is_at}
use Rattle.exposure_search.proofs.exposure_with.Goals as goal

pub returns : goal.returns
returns c = found_over_range (is_at (state c.args.book.now) c.args.key) _ _ _ (omega arith) c.find.ensures.ran (λ x y q k. search rules)
