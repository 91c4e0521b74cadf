-- `requests::check_fop` meets its contract.
-- Assumes nothing.
use Rattle.std.proofs.lemmas.Result.{err_from_is_err_and}
use Rattle.book.specs.State.{state}
use Rattle.requests.proofs.Codes.{fop_names, fop_taker, fop_rows, fop_exposure}
use Rattle.requests.proofs.Legal.{fop_fields, basket_below}
use Rattle.requests.proofs.check_fop.Goals as goal

pub check_fop_names-requires : goal.check_fop_names-requires
check_fop_names-requires c = (fop_fields _ c.requires.0 c.args.fop.now.legal, basket_below _ c.requires.0 c.args.fop.now.legal)

pub returns-in_err-check_fop_names : goal.returns-in_err-check_fop_names
returns-in_err-check_fop_names c =
    let p = err_from_is_err_and c.from_residual.result c.from_residual.ensures.1 in
    rw (p.1, p.2) (fop_names (state c.args.book.now) c.args.fop.now.fields c.get.ensures c.if-fop-get.false _ c.in_err-check_fop_names.ensures)

pub check_taker-requires : goal.check_taker-requires
check_taker-requires c = fop_fields _ c.requires.0 c.args.fop.now.legal

pub returns-in_err-check_taker : goal.returns-in_err-check_taker
returns-in_err-check_taker c =
    let p = err_from_is_err_and c.from_residual-in_err-check_taker.result c.from_residual-in_err-check_taker.ensures.1 in
    rw (p.1, p.2) (fop_taker (state c.args.book.now) c.args.fop.now.fields c.get.ensures c.if-fop-get.false c.in_ok-check_fop_names.ensures _ c.in_err-check_taker.ensures)

pub returns-in_err-check_rows : goal.returns-in_err-check_rows
returns-in_err-check_rows c =
    let p = err_from_is_err_and c.from_residual-in_err-check_rows.result c.from_residual-in_err-check_rows.ensures.1 in
    rw (p.1, p.2) (fop_rows (state c.args.book.now) c.args.fop.now.fields c.get.ensures c.if-fop-get.false c.in_ok-check_fop_names.ensures c.in_ok-check_taker.ensures _ c.in_err-check_rows.ensures)

pub returns : goal.returns
returns c =
    fop_exposure (state c.args.book.now) c.args.fop.now.fields c.get.ensures c.if-fop-get.false c.in_ok-check_fop_names.ensures c.in_ok-check_taker.ensures c.in_ok-check_rows.ensures
    c.check_exposure.ensures
