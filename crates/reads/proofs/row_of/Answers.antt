-- `reads::row_of` meets its contract: the least row with the number.
-- Assumes nothing.
use borrow.Author.Rules.{rules}
use native.Mathlib.Omega.{arith}
use Rattle.laws.proofs.Found.{found_over_range}
use Rattle.book.specs.State.{state}
use Rattle.reads.specs.Entries.{is_row}
use Rattle.reads.proofs.row_of.Goals as goal

pub returns : goal.returns
returns c = found_over_range (is_row (state c.args.book.now) c.args.number) _ _ _ (omega arith) c.find.ensures.ran (λ x y q k. search rules)
