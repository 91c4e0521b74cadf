-- `reads::basket` meets its contract: its tests, one after the other, give its code.
-- Assumes nothing.
use mathlib.Core.Path.{refl}
use lib.Dec.{eqb, leb}
use Rattle.std.proofs.lemmas.Result.{err_from_is_err_and}
use Rattle.book.specs.Layout.{maps}
use Rattle.book.specs.State.{state}
use Rattle.rules.specs.Reads.{basket}
use Rattle.rules.specs.Stock.{basket_set_up}
use Rattle.reads.proofs.Codes.{by_damage, by_rules, row_far, row_unused, row_used, used_at}
use Rattle.reads.proofs.basket.Goals as goal

pub returns-in_err-book-clause-code : goal.returns-in_err-book-clause-code
returns-in_err-book-clause-code c =
    let p = err_from_is_err_and c.from_residual.result c.from_residual.ensures.1 in
    rw (p.1, p.2) (by_damage c.args.book.now (basket c.args.b) _ c.in_err-book.ensures.code)

pub returns-in_err-i-clause-code : goal.returns-in_err-i-clause-code
returns-in_err-i-clause-code c =
    let p = err_from_is_err_and c.from_residual-in_err-i.result c.from_residual-in_err-i.ensures.1 in
    rw (p.1, p.2) (by_rules c.args.book.now (basket c.args.b) c.in_ok-book.ensures.code (row_far _ (leb 16 c.args.b) (basket_set_up (state c.args.book.now) c.args.b) c.in_err-i.ensures.code))

pub returns-in_err-check_used-clause-code : goal.returns-in_err-check_used-clause-code
returns-in_err-check_used-clause-code c =
    let p = err_from_is_err_and c.from_residual-in_err-check_used.result c.from_residual-in_err-check_used.ensures.1 in
    rw (p.1, p.2) (by_rules c.args.book.now (basket c.args.b) c.in_ok-book.ensures.code (row_unused _ (leb 16 c.args.b) (basket_set_up (state c.args.book.now) c.args.b) (eqb (state c.args.book.now maps c.args.b) 0) c.in_ok-i.ensures.code refl (used_at maps c.in_ok-book.ensures.same c.in_ok-i.ensures.value.0 c.in_err-check_used.ensures)))

pub returns-clause-code : goal.returns-clause-code
returns-clause-code c =
    by_rules c.args.book.now (basket c.args.b) c.in_ok-book.ensures.code (row_used (leb 16 c.args.b) (basket_set_up (state c.args.book.now) c.args.b) (eqb (state c.args.book.now maps c.args.b) 0) c.in_ok-i.ensures.code refl (used_at maps c.in_ok-book.ensures.same c.in_ok-i.ensures.value.0 c.in_ok-check_used.ensures))
