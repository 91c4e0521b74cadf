-- `securities::worth_of` meets its contract.
-- Assumes nothing.
use mathlib.Core.Path.{refl, ◌∙◌}
use native.Mathlib.Omega.{arith}
use borrow.Author.Rules.{rules}
use Rattle.std.proofs.lemmas.Iterator.{YieldsList-from_range, YieldsList-from_map}
use Rattle.std.proofs.lemmas.Iterator.Consumers.{sum_from_yields_List, fits_from_yields_list}
use Rattle.laws.proofs.Ranges.{sum_over_range}
use Rattle.securities.specs.Position.{worth, value_at, nominals_of}
use Rattle.securities.proofs.Positions.{sum_worth_le}
use Rattle.securities.proofs.worth_of.Goals as goal

-- what the chain gives, and that its sum fits
pub sum-requires-clause-fits : goal.sum-requires-clause-fits
sum-requires-clause-fits c =
    let n = nominals_of c.args.nominals.now in
    let f = value_at c.args.columns.now n in
    let most = sum_worth_le c.args.columns.now c.requires.0 n c.requires.1 64 (omega arith) in
    fits_from_yields_list _ _
    (YieldsList-from_map _ f (YieldsList-from_range 0 64 64 c.map.ensures.source refl) c.map.ensures.closure (λ x b q k. search rules))
    (omega (arith, most, sum_over_range f 64))

pub returns : goal.returns
unfolding worth
returns c =
    let f = value_at c.args.columns.now (nominals_of c.args.nominals.now) in
    sum_from_yields_List _ _ c.sum.ensures.ran
    (YieldsList-from_map _ f (YieldsList-from_range 0 64 64 c.map.ensures.source refl) c.map.ensures.closure (λ x b q k. search rules))
    ∙ sum_over_range f 64
