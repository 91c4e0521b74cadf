-- `sound_stocks::is_sound_nominal` meets its contract.
-- Assumes nothing.
use native.Mathlib.Omega.{arith}
use Rattle.book.specs.State.{state}
use Rattle.book.proofs.Images.{state_fits}
use Rattle.sound_stocks.proofs.Stocks.{nominal_nothing, nominal_not_whole, nominal_too_much, nominal_added, nominal_small}
use Rattle.sound_stocks.proofs.is_sound_nominal.Goals as goal

pub returns-then-nominal-eq0 : goal.returns-then-nominal-eq0
returns-then-nominal-eq0 c = search nominal_nothing

pub returns-then-not-is_in_lots : goal.returns-then-not-is_in_lots
returns-then-not-is_in_lots c = search nominal_not_whole

pub overflow_add-sum : goal.overflow_add-sum
overflow_add-sum c =
    let fits = state_fits c.args.book.now (omega arith) c.fits-book in
    omega (arith, nominal_small (state c.args.book.now) fits c.requires.0 c.requires.1 c.from.ensures c.get-nominal.ensures)

pub overflow_add-get : goal.overflow_add-get
overflow_add-get c =
    let fits = state_fits c.args.book.now (omega arith) c.fits-book in
    omega (arith, nominal_small (state c.args.book.now) fits c.requires.0 c.requires.1 c.from.ensures c.get-nominal.ensures, c.get.ensures)

pub returns-then-get-sum-gt-GREATEST_NOMINAL : goal.returns-then-get-sum-gt-GREATEST_NOMINAL
returns-then-get-sum-gt-GREATEST_NOMINAL c = search nominal_too_much

pub returns : goal.returns
returns c = search nominal_added
