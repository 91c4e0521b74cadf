-- `securities::are_nominals` meets its contract.
-- Assumes nothing.
use mathlib.Core.Path.{◌≡◌, ◌∙◌}
use native.Mathlib.Omega.{arith}
use lib.ListN.{length}
use borrow.Author.Rules.{rules}
use borrow.Author.Tests.{tests}
use Rattle.std.proofs.lemmas.Iterator.{YieldsList-from_slice}
use Rattle.std.proofs.lemmas.Iterator.Search.{all_from_yields_List}
use Rattle.laws.proofs.Ranges.{list_all_items}
use Rattle.valuation.specs.Value.{legal_nominal}
use Rattle.securities.proofs.are_nominals.Goals as goal

pub returns : goal.returns
returns c =
    let n : length c.args.nominals.now ≡ 64 = omega arith in
    all_from_yields_List legal_nominal _ _ _ c.all.ensures.ran (YieldsList-from_slice c.args.nominals.now (cc)) (λ x b q k. search (rules, tests))
    ∙ rw n at (list_all_items legal_nominal c.args.nominals.now)
