-- What is read and written from one piece to the next, and at the end.
-- Assumes nothing.
use Rattle.std.proofs.Common.{◌≡◌, refl, sym, ap, subst, ◌∙◌, true, false, true≢false, List, [], ◌∷◌, ◌++◌, ℕ, zero, suc, ◌≤◌, ◌<◌, length, Some, None, IfSome, arith, leb}
use Rattle.std.specs.declared.option.Option.{Option}
use mathlib.Core.Logic.{⊎_elim}
use borrow.Author.Tests.{leb-false}
use Rattle.std.specs.Io.KnownBytes.{Appends}
use Rattle.std.proofs.KnownBytes.{Consumes-nil, Appends-nil, Consumes-trans, Appends-trans}
use Rattle.laws.proofs.Cases.{either}
use Rattle.record_kinds.specs.Kinds.{known, places}
use Rattle.record_kinds.proofs.Fields.{start_le}
use Rattle.line_text.specs.Text.{last_line}
use Rattle.lines.specs.Program.{record_length, first_record, zero_book, program_text}
use Rattle.lines.specs.Pieces.{served_all, is_awaited, is_over, Reached}
use Rattle.lines.proofs.Program.{reached_begins, reached_on, reached_ends}
use Rattle.desk.specs.Streams.{ServesHeld, Piece, Unwritten, Between, Undelivered, Over}

-- a run begins with nothing read and nothing written
pub begins : (left holds : Option (List ℕ)) → Between left left holds holds zero_book [] 1
unfolding first_record
begins left holds = record { input = []; written = []; reached = reached_begins; consumed = Consumes-nil left; appended = Appends-nil holds; served = refl }

-- what was held, with what came behind it, is served
onward : {input written b held b' lines held' : List ℕ} {place place' : ℕ} (got : List ℕ)
    → Reached input written b held place
    → ServesHeld b (held ++ got) place b' lines held' place'
    → Reached (input ++ got) (written ++ (served_all b place (held ++ got)).text) b' held' place'
onward {held = held} got r s = rw (← s.books, ← s.places, ← s.rest) at (reached_on r got (held ++ got) refl)

-- a piece more
pub goes_on : {left₀ left left' holds₀ holds holds' : Option (List ℕ)} {b held b' held' : List ℕ} {place place' : ℕ}
    → Between left₀ left holds₀ holds b held place
    → Piece left left' holds holds' b held place b' held' place'
    → Between left₀ left' holds₀ holds' b' held' place'
goes_on {left₀} {left} {left'} {holds₀} {holds} {holds'} r p =
    let s = p.served in
    record { input = _; written = _; reached = onward p.got r.reached s; consumed = Consumes-trans left₀ left left' _ _ r.consumed p.consumed; appended = Appends-trans holds₀ holds holds' _ _ r.appended (rw s.texts at p.appended); served = s.none }

-- a run that read all that its reader had, or all before an unknown record, has written the text of the whole input
pub ends : (left₀ left holds₀ holds holds' : Option (List ℕ)) (b rest : List ℕ) (place : ℕ)
    → Between left₀ left holds₀ holds b rest place
    → Over left rest
    → Appends holds holds' (last_line place rest)
    → IfSome left₀ (λ input. Appends holds₀ holds' (program_text input))
ends None left holds₀ holds holds' b rest place r o last = tt
ends (Some xs) None holds₀ holds holds' b rest place r o last = absurd r.consumed
ends (Some xs) (Some ys) holds₀ holds holds' b rest place r o last =
    let whole = reached_ends r.reached o.count r.served o.over ys o.end in
    subst (Appends holds₀ holds') (whole ∙ ap program_text (sym r.consumed)) (Appends-trans holds₀ holds holds' r.written (last_line place rest) r.appended last)

length_most : (k : ℕ) → record_length k ≤ 65
unfolding record_length
length_most k =
    ⊎_elim
    (λ (t : known k ≡ true). rw t (start_le k places))
    (λ (t : known k ≡ false). rw t (omega arith))
    (either (known k))

-- what is held when more is to be read is no whole record
pub short : (rest : List ℕ) (count : ℕ) → is_over (Some count) rest ≡ false → 0 ≡ first_record rest → length rest < 65
unfolding is_over is_awaited first_record
short rest zero h none = absurd (true≢false h)
short [] (suc n) h none = omega arith
short (k ∷ b) (suc n) h none =
    ⊎_elim
    (λ (t : leb (record_length k) (length (k ∷ b)) ≡ true).
    let none' : 0 ≡ record_length k = rw t at none in
    absurd (true≢false (rw (← none') at h)))
    (λ (t : leb (record_length k) (length (k ∷ b)) ≡ false). omega (arith, leb-false (record_length k) (length (k ∷ b)) t, length_most k))
    (either (leb (record_length k) (length (k ∷ b))))

-- a write that failed comes after a piece that was served
pub undelivered : {left₀ left left' holds₀ holds : Option (List ℕ)} {b held b' held' : List ℕ} {place place' : ℕ}
    → Between left₀ left holds₀ holds b held place
    → Unwritten left left' b held place b' held' place'
    → Undelivered left₀ left' b' held' place'
undelivered {left₀} {left} {left'} r p =
    record { input = _; text = _; reached = onward p.got r.reached p.served; consumed = Consumes-trans left₀ left left' _ _ r.consumed p.consumed }
