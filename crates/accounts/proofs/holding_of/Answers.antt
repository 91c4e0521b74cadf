-- `accounts::holding_of` meets its contract.
-- Assumes nothing.
use mathlib.Core.Path.{◌≡◌, refl, ◌∙◌}
use Prim.Native.Nat.{◌+◌, ◌*◌}
use native.Mathlib.Omega.{arith}
use borrow.Author.Rules.{rules}
use Rattle.std.proofs.lemmas.Iterator.{YieldsList-from_range, YieldsList-from_map}
use Rattle.std.proofs.lemmas.Iterator.Consumers.{sum_from_yields_List, fits_from_yields_list}
use Rattle.laws.specs.Sum.{sum}
use Rattle.laws.proofs.Ranges.{sum_over_range}
use Rattle.book.specs.State.{state}
use Rattle.rules.specs.Stock.{holding, position_from}
use Rattle.accounts.proofs.Ranges.{account_small, placed_le}
use Rattle.accounts.proofs.holding_of.Goals as goal

pub sum-placed-requires-clause-fits : goal.sum-placed-requires-clause-fits
sum-placed-requires-clause-fits c =
    let f = position_from (state c.args.book.now) c.args.p c.args.i in
    let most = placed_le c.args.book.now (omega arith) c.fits-book c.args.p c.args.i c.requires.1 in
    fits_from_yields_list _ _
    (YieldsList-from_map _ f (YieldsList-from_range 0 64 64 c.map.ensures.source refl) c.map.ensures.closure (λ x b q k. search rules))
    (omega (arith, most, sum_over_range f 64))

-- the chain's sum is that of the positions
placed : (c : goal.After-get) → c.sum-placed.result ≡ sum (position_from (state c.args.book.now) c.args.p c.args.i) 64
placed c =
    let f = position_from (state c.args.book.now) c.args.p c.args.i in
    sum_from_yields_List _ _ c.sum-placed.ensures.ran
    (YieldsList-from_map _ f (YieldsList-from_range 0 64 64 c.map.ensures.source refl) c.map.ensures.closure (λ x b q k. search rules))
    ∙ sum_over_range f 64

pub overflow_add-result : goal.overflow_add-result
overflow_add-result c =
    let small = account_small c.args.book.now (omega arith) c.fits-book (64 * c.args.p + c.args.i) (omega arith) in
    let most = placed_le c.args.book.now (omega arith) c.fits-book c.args.p c.args.i c.requires.1 in
    omega (arith, c.get.ensures, most, placed c)

pub returns : goal.returns
unfolding holding
returns c =
    let small = account_small c.args.book.now (omega arith) c.fits-book (64 * c.args.p + c.args.i) (omega arith) in
    let most = placed_le c.args.book.now (omega arith) c.fits-book c.args.p c.args.i c.requires.1 in
    let e = placed c in
    (rw (c.get.ensures, e), omega (arith, c.get.ensures, most, e))
