-- `reads::position` meets its contract: its tests, one after the other, give its code.
-- Assumes nothing.
use mathlib.Core.Path.{refl}
use lib.Dec.{eqb, leb}
use native.Mathlib.Omega.{arith}
use Rattle.std.proofs.lemmas.Result.{err_from_is_err_and}
use Rattle.book.specs.Layout.{lots, in_use}
use Rattle.book.specs.State.{state}
use Rattle.rules.specs.Reads.{position}
use Rattle.rules.specs.Requests.{is_in_use}
use Rattle.rules.specs.Stock.{security_set_up}
use Rattle.reads.proofs.Codes.{by_damage, by_rules, nominal_far, security_far, nominal_unused, security_unused, nominal_known, used_at, in_use_known}
use Rattle.reads.proofs.position.Goals as goal

pub returns-in_err-book-clause-code : goal.returns-in_err-book-clause-code
returns-in_err-book-clause-code c =
    let p = err_from_is_err_and c.from_residual.result c.from_residual.ensures.1 in
    rw (p.1, p.2) (by_damage c.args.book.now (position c.args.exposure c.args.security) _ c.in_err-book.ensures.code)

pub returns-in_err-e-clause-code : goal.returns-in_err-e-clause-code
returns-in_err-e-clause-code c =
    let p = err_from_is_err_and c.from_residual-in_err-e.result c.from_residual-in_err-e.ensures.1 in
    rw (p.1, p.2) (by_rules c.args.book.now (position c.args.exposure c.args.security) c.in_ok-book.ensures.code (nominal_far _ (leb 64 c.args.exposure) (leb 64 c.args.security) (is_in_use (state c.args.book.now) c.args.exposure) (security_set_up (state c.args.book.now) c.args.security) c.in_err-e.ensures.code))

pub returns-in_err-i-clause-code : goal.returns-in_err-i-clause-code
returns-in_err-i-clause-code c =
    let p = err_from_is_err_and c.from_residual-in_err-i.result c.from_residual-in_err-i.ensures.1 in
    rw (p.1, p.2) (by_rules c.args.book.now (position c.args.exposure c.args.security) c.in_ok-book.ensures.code (security_far _ (leb 64 c.args.exposure) (leb 64 c.args.security) (is_in_use (state c.args.book.now) c.args.exposure) (security_set_up (state c.args.book.now) c.args.security) c.in_ok-e.ensures.code c.in_err-i.ensures.code))

pub returns-in_err-check_used-clause-code : goal.returns-in_err-check_used-clause-code
returns-in_err-check_used-clause-code c =
    let p = err_from_is_err_and c.from_residual-in_err-check_used.result c.from_residual-in_err-check_used.ensures.1 in
    rw (p.1, p.2) (by_rules c.args.book.now (position c.args.exposure c.args.security) c.in_ok-book.ensures.code (nominal_unused (leb 64 c.args.exposure) (leb 64 c.args.security) (is_in_use (state c.args.book.now) c.args.exposure) (security_set_up (state c.args.book.now) c.args.security) (eqb (state c.args.book.now in_use c.args.exposure) 0) c.in_ok-e.ensures.code c.in_ok-i.ensures.code (in_use_known c.args.book.now c.args.exposure c.in_ok-book.ensures.code (omega (arith, c.in_ok-e.ensures.value))) _ (used_at in_use c.in_ok-book.ensures.same c.in_ok-e.ensures.value.0 c.in_err-check_used.ensures)))

pub returns-in_err-check_used-2-clause-code : goal.returns-in_err-check_used-2-clause-code
returns-in_err-check_used-2-clause-code c =
    let p = err_from_is_err_and c.from_residual-in_err-check_used-2.result c.from_residual-in_err-check_used-2.ensures.1 in
    rw (p.1, p.2) (by_rules c.args.book.now (position c.args.exposure c.args.security) c.in_ok-book.ensures.code (security_unused (leb 64 c.args.exposure) (leb 64 c.args.security) (is_in_use (state c.args.book.now) c.args.exposure) (security_set_up (state c.args.book.now) c.args.security) (eqb (state c.args.book.now in_use c.args.exposure) 0) c.in_ok-e.ensures.code c.in_ok-i.ensures.code (in_use_known c.args.book.now c.args.exposure c.in_ok-book.ensures.code (omega (arith, c.in_ok-e.ensures.value))) _ (eqb (state c.args.book.now lots c.args.security) 0) (used_at in_use c.in_ok-book.ensures.same c.in_ok-e.ensures.value.0 c.in_ok-check_used.ensures) refl (used_at lots c.in_ok-book.ensures.same c.in_ok-i.ensures.value.0 c.in_err-check_used-2.ensures)))

pub returns-clause-code : goal.returns-clause-code
returns-clause-code c =
    by_rules c.args.book.now (position c.args.exposure c.args.security) c.in_ok-book.ensures.code (nominal_known (leb 64 c.args.exposure) (leb 64 c.args.security) (is_in_use (state c.args.book.now) c.args.exposure) (security_set_up (state c.args.book.now) c.args.security) (eqb (state c.args.book.now in_use c.args.exposure) 0) c.in_ok-e.ensures.code c.in_ok-i.ensures.code (in_use_known c.args.book.now c.args.exposure c.in_ok-book.ensures.code (omega (arith, c.in_ok-e.ensures.value))) (eqb (state c.args.book.now lots c.args.security) 0) (used_at in_use c.in_ok-book.ensures.same c.in_ok-e.ensures.value.0 c.in_ok-check_used.ensures) refl (used_at lots c.in_ok-book.ensures.same c.in_ok-i.ensures.value.0 c.in_ok-check_used-2.ensures))
