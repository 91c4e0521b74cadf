-- Records served one after the other: what holds after some of them, what one more does, and what the last leaves.
-- Assumes nothing.
use mathlib.Core.Path.{◌≡◌, refl, sym, ap, ◌∙◌}
use mathlib.Core.List.{List, [], ◌++◌, append-nil, append_assoc}
use Prim.Native.Nat.{ℕ, zero, suc, ◌+◌, ◌*◌, ◌-◌, ◌≤◌, ◌<◌}
use native.Mathlib.Nat.{add-zero, zero-add, add_assoc}
use native.Mathlib.Omega.{arith}
use lib.ListN.{length, take, drop, length-append, length-drop, take-append-drop}
use lib.Seq.{take_all, drop-drop}
use borrow.Author.Tests.{lt-ltb, le-ltb}
use borrow.Rule.Slice.PartMut.{put_mid}
use Rattle.laws.proofs.Patches.{patch_next, patch_length}
use Rattle.rules.specs.Call.{call_book}
use Rattle.line_text.specs.Buffer.{with_text}
use Rattle.lines.specs.Program.{first_record, front, behind, front_line}
use Rattle.lines.specs.Pieces.{Served, served, before, served_within, served_all, Serves}

-- one record more
served_more : (n : ℕ) (b piece : List ℕ) (place : ℕ) → 0 < first_record piece → served_within (suc n) b place piece ≡ before (front_line b place piece) (first_record piece) (served_within n (call_book b (front piece)) (place + 1) (behind piece))
unfolding served_within
served_more n b piece place h = rw (lt-ltb 0 (first_record piece) h)

-- nothing is served where no record stands at the front
no_more : (n : ℕ) (b piece : List ℕ) (place : ℕ) → 0 ≡ first_record piece → served_within n b place piece ≡ served b [] 0 place
unfolding served_within
no_more zero b piece place h = refl
no_more (suc n) b piece place h = rw (le-ltb 0 (first_record piece) (omega arith))

before_before : (s t : List ℕ) (m n : ℕ) (r : Served) → before s m (before t n r) ≡ before (s ++ t) (m + n) r
before_before s t m n r = rw (append_assoc s t r.text, add_assoc m n r.taken)

-- one text behind the other
text_next : (l s t : List ℕ) (at : ℕ) → at + length s ≤ length l → with_text (with_text l at s) (at + length s) t ≡ with_text l at (s ++ t)
unfolding with_text
text_next l s t at room = rw (length-append s t) (patch_next l s t at (length s) (length t) refl room)

text_length : (l s : List ℕ) (at : ℕ) → at + length s ≤ length l → length (with_text l at s) ≡ length l
unfolding with_text
text_length l s at room = patch_length l s at (length s) refl room

-- no text changes nothing
text_none : (l : List ℕ) (at : ℕ) → l ≡ with_text l at []
unfolding with_text
text_none l at = rw (append-nil (take at l), add-zero at, take-append-drop at l)

-- a text that is copied to a part of a buffer as long as it is
text_copied : (l t : List ℕ) (at n : ℕ) → n ≡ length t → put_mid at n l t ≡ with_text l at t
unfolding with_text
text_copied l t at n e = rw e (sym (append_assoc (take at l) t _) ∙ ap (λ (z : List ℕ). take at l ++ t ++ z) (drop-drop (length t) at l))

-- What holds after some records: the lines so far are put, and what the whole piece leaves is what the rest leaves, behind them. A record has
-- a byte or more, and a line at most 126.
pub record Walk (piece b₀ l₀ : List ℕ) (place₀ : ℕ) (b l : List ℕ) (place taken waiting : ℕ) : Type 0 where
  pub left : ℕ
  pub text : List ℕ
  pub inside : taken ≤ length piece
  pub enough : length piece ≤ left + taken
  pub counted : place ≤ place₀ + taken
  pub fitting : waiting ≤ 126 * taken
  pub sized : length l ≡ length l₀
  pub long : waiting ≡ length text
  pub stands : l ≡ with_text l₀ 0 text
  pub whole : served_all b₀ place₀ piece ≡ before text taken (served_within left b place (drop taken piece))

pub walk_begins : (piece b l : List ℕ) (place : ℕ) → Walk piece b l place b l place 0 0
walk_begins piece b l place =
    record {
      left = length piece;
      text = [];
      inside = omega arith;
      enough = omega arith;
      counted = omega arith;
      fitting = omega arith;
      sized = refl;
      long = refl;
      stands = text_none l 0;
      whole = rw (zero-add (served_within (length piece) b place piece).taken);
    }

module _ {piece b₀ l₀ : List ℕ} {place₀ : ℕ} {b l : List ℕ} {place taken waiting : ℕ} (w : Walk piece b₀ l₀ place₀ b l place taken waiting) where
  -- one record more, and its line
  pub walk_on : (line : List ℕ) {at n place' taken' waiting' : ℕ}
      → 126 * length piece ≤ length l₀
      → 0 < first_record (drop taken piece)
      → first_record (drop taken piece) ≤ length (drop taken piece)
      → length line ≤ 126
      → line ≡ front_line b place (drop taken piece)
      → (at ≡ waiting) × (n ≡ length line)
      → place' ≡ place + 1
      → taken' ≡ taken + first_record (drop taken piece)
      → waiting' ≡ waiting + length line
      → Walk piece b₀ l₀ place₀ (call_book b (front (drop taken piece))) (put_mid at n l line) place' taken' waiting'
  walk_on line {n = n} room more within short is put next on long =
      let rest = drop taken piece in
      let m = first_record rest in
      let left = w.left - 1 in
      let one_more : w.left ≡ suc left = omega (arith, w.enough, length-drop taken piece) in
      let step : served_within w.left b place rest ≡ before line m (served_within left (call_book b (front rest)) (place + 1) (behind rest)) = ap (λ (k : ℕ). served_within k b place rest) one_more ∙ rw is (served_more left b rest place more) in
      let fits : waiting + length line ≤ length l = omega (arith, w.fitting, w.sized, length-drop taken piece) in
      let copied = text_copied l line waiting n put.1 in
      rw (put.0, next, on, long)
      record {
        left = left;
        text = w.text ++ line;
        inside = omega (arith, length-drop taken piece);
        enough = omega (arith, w.enough);
        counted = omega (arith, w.counted);
        fitting = omega (arith, w.fitting);
        sized = ap length copied ∙ text_length l line waiting fits ∙ w.sized;
        long = omega (arith, w.long, length-append w.text line);
        stands =
            copied
            ∙ ap (λ (z : List ℕ). with_text z waiting line) w.stands
            ∙ ap (λ (k : ℕ). with_text (with_text l₀ 0 w.text) k line) (w.long ∙ sym (zero-add (length w.text)))
            ∙ text_next l₀ w.text line 0 (omega (arith, w.long, w.sized));
        whole =
            w.whole
            ∙ ap (before w.text taken) step
            ∙ before_before w.text line taken m (served_within left (call_book b (front rest)) (place + 1) (behind rest))
            ∙ ap (λ (d : List ℕ). before (w.text ++ line) (taken + m) (served_within left (call_book b (front rest)) (place + 1) d)) (drop-drop m taken piece);
      }

  -- where no whole record stands at the front, what is done is all
  pub walk_ends : first_record (drop taken piece) ≡ 0 → Serves b₀ l₀ place₀ piece b l place taken waiting
  walk_ends none =
      let done : served_all b₀ place₀ piece ≡ served b w.text taken place = w.whole ∙ ap (before w.text taken) (no_more w.left b (drop taken piece) place (sym none)) ∙ rw (append-nil w.text, add-zero taken) in
      record {
        books = sym (ap (λ (s : Served). s.book) done);
        texts = w.stands ∙ sym (ap (λ (s : Served). with_text l₀ 0 s.text) done);
        waits = w.long ∙ sym (ap (λ (s : Served). length s.text) done);
        takes = sym (ap (λ (s : Served). s.taken) done);
        places = sym (ap (λ (s : Served). s.place) done);
      }

-- a part from a place to the end
pub rest_of : (piece : List ℕ) (at : ℕ) → take (length piece - at) (drop at piece) ≡ drop at piece
rest_of piece at = take_all (length piece - at) (drop at piece) (omega (arith, length-drop at piece))
