-- What each return of the functions that cut the input into records shows.
-- Assumes nothing.
use Rattle.std.proofs.Common.{◌≡◌, refl, ap, ◌∙◌, true, false, List, [], ◌∷◌, ℕ, ◌≤◌, ◌<◌, length, Some, None, IfSome, IfNone, is_some, slice_get, arith}
use Rattle.std.specs.declared.option.Option.{Option}
use Rattle.std.specs.Bool.{then_some}
use mathlib.Core.Logic.{⊎_elim}
use borrow.Author.Tests.{le-leb, lt-leb, lt-ltb, leb-true, leb-false}
use lib.Dec.{leb, ltb}
use Rattle.laws.proofs.Cases.{either}
use Rattle.record_kinds.specs.Kinds.{length_of, offset_of}
use Rattle.record_kinds.specs.Typed.{kind_count}
use Rattle.record_kinds.proofs.Fields.{kind_known, kind_unknown}
use Rattle.lines.specs.Program.{record_length, first_record}
use Rattle.lines.specs.Pieces.{is_awaited}

pub known_length : (k : ℕ) {n : ℕ} → k < kind_count → n ≡ length_of k → (n ≡ record_length k) × (0 < n)
unfolding record_length offset_of
known_length k h e = (rw (kind_known k h) e, omega arith)

pub unknown_length : (k : ℕ) → kind_count ≤ k → 0 ≡ record_length k
unfolding record_length
unknown_length k h = rw (kind_unknown k h)

pub no_record : (b : List ℕ) → slice_get b 0 ≡ None → 0 ≡ first_record b
unfolding first_record
no_record [] h = refl
no_record (k ∷ b) h = absurd (cc)

whole_record : (b : List ℕ) {k n : ℕ} → slice_get b 0 ≡ Some k → n ≡ record_length k → n ≤ length b → n ≡ first_record b
unfolding first_record
whole_record [] i e h = absurd (cc)
whole_record (x ∷ b) {k} i e h =
    let same : record_length k ≡ record_length x = ap record_length (cc) in
    rw (le-leb (record_length x) (length (x ∷ b)) (omega arith)) (e ∙ same)

cut_record : (b : List ℕ) {k n : ℕ} → slice_get b 0 ≡ Some k → n ≡ record_length k → length b < n → 0 ≡ first_record b
unfolding first_record
cut_record [] i e h = refl
cut_record (x ∷ b) {k} i e h =
    let same : record_length k ≡ record_length x = ap record_length (cc) in
    rw (lt-leb (record_length x) (length (x ∷ b)) (omega arith))

pub unknown_record : (b : List ℕ) {k : ℕ} → slice_get b 0 ≡ Some k → 0 ≡ record_length k → 0 ≡ first_record b
unfolding first_record
unknown_record [] i e = refl
unknown_record (x ∷ b) {k} i e =
    let same : record_length k ≡ record_length x = ap record_length (cc) in
    rw (le-leb (record_length x) (length (x ∷ b)) (omega arith)) (e ∙ same)

-- a record of a kind is the first one where it is not cut
pub first_fits : (b : List ℕ) {k n : ℕ} (r : Option ℕ) → slice_get b 0 ≡ Some k → n ≡ record_length k → 0 < n → r ≡ then_some (leb n (length b)) n
    → IfSome r (λ m. (m ≡ first_record b) × (0 < m) × (m ≤ length b)) × IfNone r (0 ≡ first_record b)
first_fits b {k} {n} r i e some h =
    ⊎_elim
    (λ (t : leb n (length b) ≡ true). rw h (rw t ((whole_record b i e (leb-true n (length b) t), some, leb-true n (length b) t), tt)))
    (λ (t : leb n (length b) ≡ false). rw h (rw t (tt, cut_record b i e (leb-false n (length b) t))))
    (either (leb n (length b)))

pub none_awaited : (b : List ℕ) → slice_get b 0 ≡ None → true ≡ is_awaited b
unfolding is_awaited
none_awaited [] i = refl
none_awaited (x ∷ b) i = absurd (cc)

-- a first byte is awaited where it is a kind
pub kind_awaited : (b : List ℕ) {k : ℕ} → slice_get b 0 ≡ Some k → ltb 0 (record_length k) ≡ is_awaited b
unfolding is_awaited
kind_awaited [] i = absurd (cc)
kind_awaited (x ∷ b) {k} i = ap (λ (z : ℕ). ltb 0 (record_length z)) (cc)

-- is there a length
pub is_length : (t : Option ℕ) (m : ℕ) → IfSome t (λ n. (n ≡ m) × (0 < n)) → IfNone t (0 ≡ m) → is_some t ≡ ltb 0 m
is_length None m s n = rw (← n)
is_length (Some x) m s n = rw (lt-ltb 0 m (omega (arith, s.0, s.1)))
