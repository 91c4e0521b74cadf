-- `desk::input::Input::read_more` meets its contract: what was held is moved to the front and stays there, and what was read stands behind it.
-- Assumes nothing.
use Rattle.std.proofs.Common.{◌≡◌, ◌∙◌, ap, ap₂, sym, [], ◌++◌, List, ℕ, ◌+◌, ◌≤◌, length, length-take-le, take, append-nil, arith}
use Rattle.std.proofs.KnownBytes.{Consumes-nil, Consumes-kept}
use Rattle.std.proofs.lemmas.Slice.{take-put_mid_below}
use Rattle.std.proofs.lemmas.List.{take-append-le}
use borrow.Rule.Slice.PartMut.{put_mid}
use lib.Seq.{take-add, take_at, drop_at}
use Rattle.desk.proofs.input.Input.read_more.Goals as goal

-- the bytes before those that were read, and the first ones of these
front_read : (a k n : ℕ) (xs ys : List ℕ) → a ≤ length xs → n ≤ length ys → take (a + n) (put_mid a k xs ys) ≡ take a xs ++ take n ys
front_read a k n xs ys h m =
    let size : length (take a xs) ≡ a = length-take-le a xs h in
    take-add a n (put_mid a k xs ys) ∙ ap₂ (λ (p q : List ℕ). p ++ q) (take_at (take a xs) _ a size) (ap (take n) (drop_at (take a xs) _ a size) ∙ take-append-le n ys _ m)

pub returns-in_err-count-clause-gained : goal.returns-in_err-count-clause-gained
returns-in_err-count-clause-gained g c =
    let moved = c.move_to_front-held in
    record {
      got = [];
      consumed = Consumes-kept _ _ _ [] (Consumes-nil _) c.in_err-count.ensures.bytes;
      behind = take-put_mid_below moved.result _ moved.new.bytes c.read.new.buf moved.result (omega arith) (omega arith) ∙ moved.ensures.1 ∙ c.self.view_is ∙ sym (append-nil c.args.self.now);
    }

pub returns-clause-gained : goal.returns-clause-gained
returns-clause-gained g c =
    let moved = c.move_to_front-held in
    let n = c.in_ok-count.count in
    record {
      got = take n c.read.new.buf;
      consumed = c.in_ok-count.ensures.bytes.0;
      behind = front_read moved.result _ n moved.new.bytes c.read.new.buf (omega arith) (omega (arith, c.in_ok-count.ensures.bound)) ∙ ap (λ (z : List ℕ). z ++ take n c.read.new.buf) (moved.ensures.1 ∙ c.self.view_is);
    }
