-- `settlement::settle` meets its contract: what prices are worth is found once, since no price changes; returns, then FOPs.
-- Assumes nothing.
use native.Mathlib.Omega.{arith}
use Rattle.eligibility.proofs.Fresh.{sound_aged, prices_same}
use Rattle.book.proofs.Images.{state_fits}
use Rattle.book.specs.State.{state}
use Rattle.facts.proofs.Written.{sound_facts}
use Rattle.facts.specs.Good.{Good}
use Rattle.settlement.proofs.Passes.{settled_state, settled_totals}
use Rattle.settlement.proofs.settle.Goals as goal
use Rattle.settlement.proofs.settle.Goals.{Start}

-- the book at the start is good
good : (c : Start) → Good (state c.args.book.now)
good c =
    record { facts = sound_facts (state c.args.book.now) c.requires; fits = state_fits c.args.book.now (omega arith) c.fits-book }

pub of-prices-requires : goal.of-prices-requires
of-prices-requires c = sound_aged (state c.args.book.now) (sound_facts (state c.args.book.now) c.requires)

pub settle_pairs-returns-requires : goal.settle_pairs-returns-requires
settle_pairs-returns-requires c =
    (good (goal.at.settle_pairs-returns-requires c).Start, c.of-prices.ensures, record { fops = omega arith; returns = omega arith; cents = omega arith })

pub settle_pairs-requires : goal.settle_pairs-requires
settle_pairs-requires c =
    let done = c.settle_pairs-returns.ensures in
    (done.good, prices_same done.prices c.of-prices.ensures, record { fops = omega (arith, done.within.fops); returns = omega (arith, done.within.returns); cents = omega (arith, done.within.cents) })

pub returns : goal.returns
returns c =
    let g = good (goal.at.returns c).Start in
    (settled_totals g c.settle_pairs-returns.ensures c.settle_pairs.ensures, settled_state g c.settle_pairs-returns.ensures c.settle_pairs.ensures)
