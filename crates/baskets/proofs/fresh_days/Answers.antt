-- `baskets::fresh_days` meets its contract.
-- Assumes nothing.
use Rattle.baskets.proofs.Eligible.{fresh_ages}
use Rattle.baskets.proofs.fresh_days.Goals as goal

pub returns : goal.returns
returns c = fresh_ages c.earliest_quote-from.ensures c.fresh_days.ensures
