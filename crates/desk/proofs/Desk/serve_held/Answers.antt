-- `desk::Desk::serve_held` meets its contract: the lines of what was held stand at the front of the text.
-- Assumes nothing.
use Rattle.std.proofs.Common.{◌≡◌, ℕ, List, ap, sym, ◌∙◌, length, take}
use lib.Seq.{take_at}
use Rattle.line_text.specs.Buffer.{with_text}
use Rattle.lines.specs.Program.{first_record}
use Rattle.desk.proofs.Desk.serve_held.Goals as goal

-- a text that was put at the front
put_first : (l text : List ℕ) (n : ℕ) → n ≡ length text → take n (with_text l 0 text) ≡ text
unfolding with_text
put_first l text n e = take_at text _ n (sym e)

pub returns-clause-served : goal.returns-clause-served
returns-clause-served c =
    let s = rw c.held.ensures.0 at c.serve-progress.ensures.serves in
    let none = rw c.held.ensures.0 at c.serve-progress.ensures.value.0 in
    let rest = c.consume.ensures in
    record {
      books = s.books;
      texts = rw s.texts (put_first _ _ _ s.waits);
      places = s.places;
      rest = rest ∙ rw s.takes;
      none = none ∙ ap first_record (sym rest);
    }
