-- `request_search::first_empty` meets its contract.
-- Assumes nothing.
use Prim.Native.Nat.{◌-◌}
use mathlib.Core.Path.{◌≡◌}
use native.Mathlib.Omega.{arith}
use lib.Dec.{eqb}
use borrow.Author.Rules.{rules}
use Rattle.laws.proofs.Found.{found_over_range}
use Rattle.book.specs.State.{state}
use Rattle.book.specs.Tables.{number}
use Rattle.request_search.proofs.first_empty.Goals as goal

pub returns : goal.returns
returns c =
    let whole : c.args.n - 0 ≡ c.args.n = omega arith in
    let r = found_over_range (λ i. eqb (state c.args.book.now (number c.args.table) i) 0) _ _ _ (omega arith) c.find.ensures.ran (λ x y q k. search rules) in
    rw whole at r
