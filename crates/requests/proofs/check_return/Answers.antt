-- `requests::check_return` meets its contract.
-- Assumes nothing.
use Rattle.std.proofs.lemmas.Result.{err_from_is_err_and}
use Rattle.book.specs.State.{state}
use Rattle.requests.proofs.Codes.{return_taker}
use Rattle.requests.proofs.Legal.{return_fields}
use Rattle.requests.proofs.check_return.Goals as goal

pub check_parties-requires : goal.check_parties-requires
check_parties-requires c = return_fields _ c.requires.0 c.args.back.now.legal

pub check_taker-requires : goal.check_taker-requires
check_taker-requires c = return_fields _ c.requires.0 c.args.back.now.legal

pub returns-in_err-check_taker : goal.returns-in_err-check_taker
returns-in_err-check_taker c =
    let p = err_from_is_err_and c.from_residual-in_err-check_taker.result c.from_residual-in_err-check_taker.ensures.1 in
    rw (p.1, p.2) (return_taker (state c.args.book.now) c.args.back.now.fields _ c.in_ok-check_parties.ensures c.in_ok-check_settlement.ensures c.in_err-check_taker.ensures)
