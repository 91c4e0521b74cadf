-- `baskets::eligibility_on` meets its contract.
-- Assumes nothing.
use mathlib.Core.Path.{refl}
use native.Mathlib.Nat.{le_refl}
use Rattle.baskets.proofs.eligibility_on.Goals as goal

pub returns : goal.returns
returns c =
    let oldest = c.args.b.oldest in
    record { map = refl; fresh = c.fresh_days-days.ensures.each oldest (le_refl oldest) }
