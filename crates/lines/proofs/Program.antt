-- The text of an input that is read and served piece by piece: what is put for a piece, and then the text of what is left of it and of
-- what comes behind, is the text of the whole.
-- Assumes nothing.
use mathlib.Core.Path.{◌≡◌, refl, sym, ap, ◌∙◌}
use mathlib.Core.Bool.{Bool, true, false, true≢false, not}
use mathlib.Core.List.{List, [], ◌∷◌, ◌++◌, append-nil, append_assoc}
use mathlib.Core.Logic.{⊎_elim}
use Prim.Native.Nat.{ℕ, zero, suc, ◌+◌, ◌≤◌, ◌<◌}
use native.Mathlib.Omega.{arith}
use lib.Dec.{leb, ltb}
use lib.ListN.{length, get_or, take, drop, length-append, length-drop, replicate, get_or-append}
use lib.Seq.{take-append-le, drop-append-le, drop-drop}
use borrow.Author.Tests.{ltb-true, ltb-false, lt-ltb, le-ltb, le-leb, leb-true}
use Rattle.std.specs.Prelude.{Some}
use Rattle.laws.proofs.Cases.{either}
use Rattle.rules.specs.Call.{call_book}
use Rattle.line_text.specs.Text.{last_line}
use Rattle.lines.specs.Program.{record_length, first_record, front, behind, front_line, text_within, text_of, zero_book, program_text}
use Rattle.lines.specs.Pieces.{served_within, served_all, is_awaited, is_over, Reached}

-- a whole record stays whole, whatever comes behind it
whole_stays : (piece later : List ℕ) → 0 < first_record piece → (first_record (piece ++ later) ≡ first_record piece) × (first_record piece ≤ length piece)
unfolding first_record
whole_stays [] later h = absurd (omega arith)
whole_stays (k ∷ b) later h =
    ⊎_elim
    (λ (t : leb (record_length k) (length (k ∷ b)) ≡ true).
    let fits = leb-true (record_length k) (length (k ∷ b)) t in
    let more : record_length k ≤ length (k ∷ b ++ later) = omega (arith, length-append b later) in
    (rw (t, le-leb (record_length k) (length (k ∷ b ++ later)) more), rw t fits))
    (λ (t : leb (record_length k) (length (k ∷ b)) ≡ false). absurd (omega (arith, rw t at h)))
    (either (leb (record_length k) (length (k ∷ b))))

-- where no whole record stands at the front, the text is the last line
pub text_ends : (b input : List ℕ) (place : ℕ) → 0 ≡ first_record input → text_of b place input ≡ last_line place input
unfolding text_within last_line
text_ends b [] place h = refl
text_ends b (k ∷ input) place h = rw (le-ltb 0 (first_record (k ∷ input)) (omega arith))

text_more : (n : ℕ) (b input : List ℕ) (place : ℕ) → 0 < first_record input → text_within (suc n) b place input ≡ front_line b place input ++ text_within n (call_book b (front input)) (place + 1) (behind input)
unfolding text_within
text_more n b input place h = rw (lt-ltb 0 (first_record input) h)

-- as many records as there are bytes are enough
enough : (n m : ℕ) (b input : List ℕ) (place : ℕ) → length input ≤ n → length input ≤ m → text_within n b place input ≡ text_within m b place input
unfolding text_within first_record last_line
enough zero zero b input place h l = refl
enough zero (suc m) b [] place h l = refl
enough zero (suc m) b (k ∷ input) place h l = absurd (omega arith)
enough (suc n) zero b [] place h l = refl
enough (suc n) zero b (k ∷ input) place h l = absurd (omega arith)
enough (suc n) (suc m) b input place h l =
    ⊎_elim
    (λ (t : ltb 0 (first_record input) ≡ true).
    let some = ltb-true 0 (first_record input) t in
    let size = length-drop (first_record input) input in
    rw t (ap (λ (z : List ℕ). front_line b place input ++ z) (enough n m (call_book b (front input)) (behind input) (place + 1) (omega arith) (omega arith))))
    (λ (t : ltb 0 (first_record input) ≡ false). rw t)
    (either (ltb 0 (first_record input)))

-- one record more
text_on : (b input : List ℕ) (place : ℕ) → 0 < first_record input → text_of b place input ≡ front_line b place input ++ text_of (call_book b (front input)) (place + 1) (behind input)
text_on b [] place h = absurd (omega (arith, (whole_stays [] [] h).1))
text_on b (k ∷ input) place h =
    let size = length-drop (first_record (k ∷ input)) (k ∷ input) in
    text_more (length input) b (k ∷ input) place h
    ∙ ap (λ (z : List ℕ). front_line b place (k ∷ input) ++ z) (enough (length input) (length (behind (k ∷ input))) (call_book b (front (k ∷ input))) (behind (k ∷ input)) (place + 1) (omega arith) (omega arith))

-- the join: what a piece's records put, and the text of the rest of the piece with what comes behind, is the text of the piece with it
pub joined : (n : ℕ) (b piece : List ℕ) (place : ℕ) (later : List ℕ) → text_of b place (piece ++ later) ≡ (served_within n b place piece).text ++ text_of (served_within n b place piece).book (served_within n b place piece).place (drop (served_within n b place piece).taken piece ++ later)
unfolding served_within
joined zero b piece place later = refl
joined (suc n) b piece place later =
    ⊎_elim
    (λ (t : ltb 0 (first_record piece) ≡ true).
    let some : 0 < first_record piece = ltb-true 0 (first_record piece) t in
    let stays = whole_stays piece later some in
    let size : first_record piece ≤ length piece = stays.1 in
    let input = piece ++ later in
    let record_is : front input ≡ front piece = ap (λ (k : ℕ). take k input) stays.0 ∙ take-append-le (first_record piece) piece later size in
    let rest-is : behind input ≡ behind piece ++ later = ap (λ (k : ℕ). drop k input) stays.0 ∙ drop-append-le (first_record piece) piece later size in
    let kind_is : get_or input 0 0 ≡ get_or piece 0 0 = get_or-append piece later 0 0 (omega arith) in
    let r = served_within n (call_book b (front piece)) (place + 1) (behind piece) in
    rw t
    (text_on b input place (omega (arith, stays.0))
    ∙ rw (record_is, kind_is, rest-is) (ap (λ (z : List ℕ). front_line b place piece ++ z) (joined n (call_book b (front piece)) (behind piece) (place + 1) later))
    ∙ sym (append_assoc (front_line b place piece) r.text (text_of r.book r.place (drop r.taken (behind piece) ++ later)))
    ∙ ap (λ (z : List ℕ). (front_line b place piece ++ r.text) ++ text_of r.book r.place (z ++ later)) (drop-drop r.taken (first_record piece) piece)))
    (λ (t : ltb 0 (first_record piece) ≡ false). rw t)
    (either (ltb 0 (first_record piece)))

-- what comes behind an unknown record does not matter
unknown_ends : (b rest : List ℕ) (place : ℕ) (later : List ℕ) → is_awaited rest ≡ false → text_of b place (rest ++ later) ≡ last_line place rest
unfolding is_awaited first_record last_line
unknown_ends b [] place later h = absurd (true≢false h)
unknown_ends b (k ∷ rest) place later h =
    let none = ltb-false 0 (record_length k) h in
    let is : 0 ≡ record_length k = omega arith in
    text_ends b (k ∷ rest ++ later) place (rw (← is, le-leb 0 (length (k ∷ rest ++ later)) (omega arith)))

not-true : (t : Bool) → not t ≡ true → t ≡ false
not-true true h = sym h
not-true false h = refl

pub reached_begins : Reached [] [] zero_book [] 1
unfolding program_text
reached_begins = record { whole = λ later. refl }

module _ {input written b held : List ℕ} {place : ℕ} (r : Reached input written b held place) where
  -- a piece more is read and served: what was held, with the bytes read behind it
  pub reached_on : (got piece : List ℕ) → piece ≡ held ++ got → Reached (input ++ got) (written ++ (served_all b place piece).text) (served_all b place piece).book (drop (served_all b place piece).taken piece) (served_all b place piece).place
  reached_on got piece e =
      let s = served_all b place piece in
      record {
        whole = λ later.
            append_assoc written s.text (text_of s.book s.place (drop s.taken piece ++ later))
            ∙ ap (λ (z : List ℕ). written ++ z) (sym (joined (length piece) b piece place later))
            ∙ ap (λ (z : List ℕ). written ++ text_of b place (z ++ later)) e
            ∙ ap (λ (z : List ℕ). written ++ text_of b place z) (append_assoc held got later)
            ∙ r.whole (got ++ later)
            ∙ ap program_text (sym (append_assoc input got later));
      }

  -- the last line is all that is missing where the input is at its end or goes on with an unknown record
  pub reached_ends : (count : ℕ) → 0 ≡ first_record held → is_over (Some count) held ≡ true → (later : List ℕ) → (count ≡ 0 → later ≡ []) → written ++ last_line place held ≡ program_text (input ++ later)
  unfolding is_over
  reached_ends zero none h later over =
      ap (λ (z : List ℕ). written ++ z) (sym (text_ends b held place none) ∙ ap (text_of b place) (sym (append-nil held) ∙ ap (λ (z : List ℕ). held ++ z) (sym (over refl))))
      ∙ r.whole later
  reached_ends (suc n) none h later over = ap (λ (z : List ℕ). written ++ z) (sym (unknown_ends b held place later (not-true (is_awaited held) h))) ∙ r.whole later

pub zero_bytes : replicate 49152 0 ≡ zero_book
unfolding zero_book
zero_bytes = refl
