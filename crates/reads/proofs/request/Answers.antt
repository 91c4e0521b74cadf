-- `reads::request` meets its contract: the request's row decides.
-- Assumes nothing.
use Rattle.std.proofs.lemmas.Result.{err_from_is_err_and}
use Rattle.rules.specs.Reads.{request}
use Rattle.reads.proofs.Codes.{by_damage, request_none, request_some, request_values}
use Rattle.reads.proofs.request.Goals as goal

pub returns-in_err-book-clause-code : goal.returns-in_err-book-clause-code
returns-in_err-book-clause-code c =
    let p = err_from_is_err_and c.from_residual.result c.from_residual.ensures.1 in
    rw (p.1, p.2) (by_damage c.args.book.now (request c.args.number) _ c.in_err-book.ensures.code)

pub returns-in_default-clause-code : goal.returns-in_default-clause-code
returns-in_default-clause-code c =
    request_none c.args.book.now c.args.number c.in_ok-book.ensures.same c.row_of.ensures c.in_ok-book.ensures.code c.in_default.is

pub returns-clause-code : goal.returns-clause-code
returns-clause-code c =
    request_some c.args.book.now c.args.number c.in_ok-book.ensures.same c.row_of.ensures c.in-Some.is c.in_ok-book.ensures.code

pub returns-clause-values : goal.returns-clause-values
returns-clause-values c =
    request_values c.args.book.now c.args.number c.in_ok-book.ensures.same c.row_of.ensures c.in-Some.is c.request_answer.ensures
