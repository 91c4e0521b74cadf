-- `desk::Desk::serve_piece` meets its contract: what was held, with what was read behind it, is served, and its lines are written.
-- Assumes nothing.
use Rattle.std.proofs.Common.{rules, arith, ◌≡◌, ◌+◌, ◌<◌, ◌∙◌, ap, length, length-append, take}
use Rattle.std.specs.Io.KnownBytes.{IsAtEnd}
use Rattle.std.proofs.lemmas.Result.{MatchResult-from_err}
use Rattle.desk.proofs.Desk.serve_piece.Goals as goal

pub returns-clause-piece : goal.returns-clause-piece
returns-clause-piece g c =
    let gained = c.read_more.ensures.gained in
    let held = c.serve_held-waiting in
    record {
      got = gained.got;
      lines = take held.result held.new.self.lines;
      consumed = gained.consumed;
      served = rw gained.behind at held.ensures.served;
      appended = c.in_ok-write_text.ensures.wrote;
    }

pub returns-in_err-write_text-clause-failed_write : goal.returns-in_err-write_text-clause-failed_write
returns-in_err-write_text-clause-failed_write g c =
    let gained = c.read_more.ensures.gained in
    let held = c.serve_held-waiting in
    let r = c.from_residual-in_err-write_text in
    let ends : c.in_ok-count.count ≡ 0 → length c.args.self.now.input < 512 → IsAtEnd (g.R.Read.remaining c.read_more.new.reader) = search rules in
    let sized : length c.read_more.new.self ≡ length c.args.self.now.input + c.in_ok-count.count = search rules in
    let grown : length c.read_more.new.self ≡ length c.args.self.now.input + length gained.got = ap length gained.behind ∙ length-append c.args.self.now.input gained.got in
    MatchResult-from_err r.result _ _ r.ensures.0 (λ failure failed. record { got = gained.got; lines = take held.result held.new.self.lines; consumed = gained.consumed; served = rw gained.behind at held.ensures.served; end = λ none few. ends (omega (arith, sized, grown, ap length none)) few })
