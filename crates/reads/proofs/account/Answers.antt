-- `reads::account` meets its contract: its tests, one after the other, give its code.
-- Assumes nothing.
use mathlib.Core.Path.{refl}
use lib.Dec.{eqb, leb}
use Rattle.std.proofs.lemmas.Result.{err_from_is_err_and}
use Rattle.book.specs.Layout.{modes, lots}
use Rattle.book.specs.State.{state}
use Rattle.rules.specs.Reads.{account}
use Rattle.rules.specs.Stock.{participant_set_up, security_set_up}
use Rattle.reads.proofs.Codes.{by_damage, by_rules, nominal_far, security_far, nominal_unused, security_unused, nominal_known, used_at}
use Rattle.reads.proofs.account.Goals as goal

pub returns-in_err-book-clause-code : goal.returns-in_err-book-clause-code
returns-in_err-book-clause-code c =
    let p = err_from_is_err_and c.from_residual.result c.from_residual.ensures.1 in
    rw (p.1, p.2) (by_damage c.args.book.now (account c.args.participant c.args.security) _ c.in_err-book.ensures.code)

pub returns-in_err-p-clause-code : goal.returns-in_err-p-clause-code
returns-in_err-p-clause-code c =
    let p = err_from_is_err_and c.from_residual-in_err-p.result c.from_residual-in_err-p.ensures.1 in
    rw (p.1, p.2) (by_rules c.args.book.now (account c.args.participant c.args.security) c.in_ok-book.ensures.code (nominal_far _ (leb 32 c.args.participant) (leb 64 c.args.security) (participant_set_up (state c.args.book.now) c.args.participant) (security_set_up (state c.args.book.now) c.args.security) c.in_err-p.ensures.code))

pub returns-in_err-i-clause-code : goal.returns-in_err-i-clause-code
returns-in_err-i-clause-code c =
    let p = err_from_is_err_and c.from_residual-in_err-i.result c.from_residual-in_err-i.ensures.1 in
    rw (p.1, p.2) (by_rules c.args.book.now (account c.args.participant c.args.security) c.in_ok-book.ensures.code (security_far _ (leb 32 c.args.participant) (leb 64 c.args.security) (participant_set_up (state c.args.book.now) c.args.participant) (security_set_up (state c.args.book.now) c.args.security) c.in_ok-p.ensures.code c.in_err-i.ensures.code))

pub returns-in_err-check_used-clause-code : goal.returns-in_err-check_used-clause-code
returns-in_err-check_used-clause-code c =
    let p = err_from_is_err_and c.from_residual-in_err-check_used.result c.from_residual-in_err-check_used.ensures.1 in
    rw (p.1, p.2) (by_rules c.args.book.now (account c.args.participant c.args.security) c.in_ok-book.ensures.code (nominal_unused (leb 32 c.args.participant) (leb 64 c.args.security) (participant_set_up (state c.args.book.now) c.args.participant) (security_set_up (state c.args.book.now) c.args.security) (eqb (state c.args.book.now modes c.args.participant) 0) c.in_ok-p.ensures.code c.in_ok-i.ensures.code refl _ (used_at modes c.in_ok-book.ensures.same c.in_ok-p.ensures.value.0 c.in_err-check_used.ensures)))

pub returns-in_err-check_used-2-clause-code : goal.returns-in_err-check_used-2-clause-code
returns-in_err-check_used-2-clause-code c =
    let p = err_from_is_err_and c.from_residual-in_err-check_used-2.result c.from_residual-in_err-check_used-2.ensures.1 in
    rw (p.1, p.2) (by_rules c.args.book.now (account c.args.participant c.args.security) c.in_ok-book.ensures.code (security_unused (leb 32 c.args.participant) (leb 64 c.args.security) (participant_set_up (state c.args.book.now) c.args.participant) (security_set_up (state c.args.book.now) c.args.security) (eqb (state c.args.book.now modes c.args.participant) 0) c.in_ok-p.ensures.code c.in_ok-i.ensures.code refl _ (eqb (state c.args.book.now lots c.args.security) 0) (used_at modes c.in_ok-book.ensures.same c.in_ok-p.ensures.value.0 c.in_ok-check_used.ensures) refl (used_at lots c.in_ok-book.ensures.same c.in_ok-i.ensures.value.0 c.in_err-check_used-2.ensures)))

pub returns-clause-code : goal.returns-clause-code
returns-clause-code c =
    by_rules c.args.book.now (account c.args.participant c.args.security) c.in_ok-book.ensures.code (nominal_known (leb 32 c.args.participant) (leb 64 c.args.security) (participant_set_up (state c.args.book.now) c.args.participant) (security_set_up (state c.args.book.now) c.args.security) (eqb (state c.args.book.now modes c.args.participant) 0) c.in_ok-p.ensures.code c.in_ok-i.ensures.code refl (eqb (state c.args.book.now lots c.args.security) 0) (used_at modes c.in_ok-book.ensures.same c.in_ok-p.ensures.value.0 c.in_ok-check_used.ensures) refl (used_at lots c.in_ok-book.ensures.same c.in_ok-i.ensures.value.0 c.in_ok-check_used-2.ensures))
