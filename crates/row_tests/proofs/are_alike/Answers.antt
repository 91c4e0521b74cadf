-- `row_tests::are_alike` meets its contract: the test of each table decides.
-- Assumes nothing.
use mathlib.Core.Path.{◌∙◌}
use mathlib.Core.Bool.{Bool}
use Prim.Native.Nat.{ℕ}
use borrow.Author.Rules.{rules}
use borrow.Author.Tests.{tests}
use Rattle.std.proofs.lemmas.Iterator.{YieldsList-from_slice}
use Rattle.std.proofs.lemmas.Iterator.Search.{all_from_yields_List}
use Rattle.book.specs.State.{state}
use Rattle.book.specs.Tables.{number}
use Rattle.book.specs.declared.layout.Table.{Table}
use Rattle.rules.specs.ByRow.{same}
use Rattle.row_tests.proofs.Named.{all_named}
use Rattle.row_tests.proofs.are_alike.Goals as goal

pub returns : goal.returns
returns c =
    let test : ℕ → Bool = λ f. same (state c.args.book.now) f c.args.i c.args.j in
    all_from_yields_List (λ (t : Table). test (number t)) _ _ _ c.all.ensures.ran (YieldsList-from_slice c.args.tables.now cc) (λ x b q k. search (rules, tests))
    ∙ all_named test c.args.tables.now
