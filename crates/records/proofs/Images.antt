-- The bytes of a record: how long they are up to each field, and a part that is filled with them.
-- Assumes nothing.
use mathlib.Core.Path.{◌≡◌, sym, ap, ◌∙◌}
use mathlib.Core.List.{List, ◌∷◌, ◌++◌, append-nil}
use mathlib.Core.Logic.{⊎_elim}
use Prim.Native.Nat.{ℕ, zero, suc, ◌+◌, ◌^◌, ◌≤◌, ◌<◌}
use native.Mathlib.Nat.{eq-or-lt_of_le, le_of_suc-le-suc, mod-eq_of_lt, zero-add}
use native.Mathlib.Numerals.{add-one}
use native.Mathlib.Omega.{arith}
use lib.ListN.{length, get_or, take, drop, length-append, length-drop, drop_of_length-le}
use lib.Seq.{take_all, take_at, drop_at, drop-drop, take-suc, take-append-le, take-add, get_or-take, get_or-append-add}
use Rattle.record_kinds.specs.Kinds.{places, field_of, field_bytes, offset_of, length_of}
use Rattle.record_kinds.specs.Typed.{kind_count}
use Rattle.laws.specs.Numbers.{bytes_of}
use Rattle.records.specs.Reading.{field_in}
use Rattle.records.specs.Writing.{record_bytes_to, record_bytes}
use Rattle.record_kinds.specs.declared.Field.{Field}
use Rattle.record_kinds.proofs.Fields.{start_first, start_next, start_mono, length_some}
use Rattle.laws.proofs.Patches.{patched}
use Rattle.laws.proofs.Numbers.{number_same, bytes_length, number_bytes, bytes_number}

module _ (k : ℕ) (fields : List ℕ) where
  pub image_next : (j : ℕ) → record_bytes_to k fields (j + 1) ≡ record_bytes_to k fields j ++ bytes_of (field_bytes k j) (get_or fields j 0)
  unfolding record_bytes_to
  image_next j = rw add-one

  pub image_length : (j : ℕ) → length (record_bytes_to k fields j) ≡ offset_of k j
  unfolding record_bytes_to
  image_length zero = start_first k
  image_length (suc j) = simp (length-append, image_length j, bytes_length) (sym (start_next k j) ∙ ap (offset_of k) (add-one j))

  -- a whole record_bytes is as long as the place that it ends at
  whole : (j : ℕ) → take (offset_of k j) (record_bytes_to k fields j) ≡ record_bytes_to k fields j
  whole j = take_all (offset_of k j) (record_bytes_to k fields j) (omega (arith, image_length j))

  -- up to a field, a longer record_bytes is the shorter
  pub image_take : (j n : ℕ) → j ≤ n → take (offset_of k j) (record_bytes_to k fields n) ≡ record_bytes_to k fields j
  image_take j zero h = let e : j ≡ 0 = omega arith in rw e (whole 0)
  image_take j (suc n) h =
      let shorter = image_take j n in
      ⊎_elim
      (λ (e : j ≡ suc n). rw e (whole (suc n)))
      (λ (l : j < suc n). longer j n (le_of_suc-le-suc l) ∙ shorter (le_of_suc-le-suc l))
      (eq-or-lt_of_le h)
    where
      longer : (j n : ℕ) → j ≤ n → take (offset_of k j) (record_bytes_to k fields (suc n)) ≡ take (offset_of k j) (record_bytes_to k fields n)
      longer j n l =
          rw (← add-one n, image_next) (take-append-le (offset_of k j) (record_bytes_to k fields n) (bytes_of (field_bytes k n) (get_or fields n 0)) (omega (arith, image_length n, start_mono k j n l)))

  -- the kind in a part
  pub fill_start : (d : List ℕ) {part : List ℕ} → k < kind_count → part ≡ patched d 0 1 (bytes_of 1 k) → part ≡ record_bytes_to k fields 0 ++ drop 1 d
  unfolding record_bytes_to bytes_of
  fill_start d l e = let small : k < 256 = omega arith in e ∙ ap (λ (n : ℕ). n ∷ drop 1 d) (mod-eq_of_lt small)

  -- A part that is filled field after field; past the fields that are put it is d.
  module _ (d : List ℕ) where
    pub fill_next : (j : ℕ) (part : List ℕ) {at : ℕ} {f : Field} {after : List ℕ} → at ≡ offset_of k j → f ≡ field_of k j → part ≡ record_bytes_to k fields j ++ drop at d → after ≡ patched part at f.bytes (bytes_of f.bytes (get_or fields j 0)) → after ≡ record_bytes_to k fields (j + 1) ++ drop (at + f.bytes) d
    fill_next j part {at} {f} here it done e =
        let long : length (record_bytes_to k fields j) ≡ at = image_length j ∙ sym here in
        let front : take at part ≡ record_bytes_to k fields j = rw done (take_at (record_bytes_to k fields j) (drop at d) at long) in
        let rest : drop at part ≡ drop at d = rw done (drop_at (record_bytes_to k fields j) (drop at d) at long) in
        let back : drop (at + f.bytes) part ≡ drop (at + f.bytes) d = sym (drop-drop f.bytes at part) ∙ ap (drop f.bytes) rest ∙ drop-drop f.bytes at d in
        rw (e, front, back, image_next j, it)

    -- where the record's length is reached, also before the last place
    pub fill_whole : (j : ℕ) (part : List ℕ) → j ≤ places → offset_of k j ≡ length_of k → length d ≤ offset_of k j → part ≡ record_bytes_to k fields j ++ drop (offset_of k j) d → part ≡ record_bytes k fields
    fill_whole j part l e short done =
        done
        ∙ rw (drop_of_length-le d short, append-nil) (sym (image_take j places l))
        ∙ take_all (offset_of k j) (record_bytes k fields) (omega (arith, image_length places))

    pub fill_end : (j : ℕ) {at : ℕ} (part : List ℕ) → j ≤ places → places ≤ j → at ≡ offset_of k j → length part ≡ length_of k → part ≡ record_bytes_to k fields j ++ drop at d → part ≡ record_bytes k fields
    fill_end j part l g here long done =
        let last : j ≡ places = omega arith in
        let all : offset_of k j ≡ length_of k = ap (offset_of k) last in
        let same = rw here at done in
        fill_whole j part l all (omega (arith, image_length j, simp (length-append, length-drop) at (ap length same))) same

  -- a byte before the field j
  image_at : (j n i : ℕ) → j ≤ n → i < offset_of k j → get_or (record_bytes_to k fields n) i 0 ≡ get_or (record_bytes_to k fields j) i 0
  image_at j n i h l = sym (get_or-take (offset_of k j) (record_bytes_to k fields n) i 0 l) ∙ ap (λ (b : List ℕ). get_or b i 0) (image_take j n h)

  -- the first byte is the kind
  pub image_kind : get_or (record_bytes k fields) 0 0 ≡ k
  unfolding record_bytes_to
  image_kind = image_at 0 places 0 (omega arith) (omega (arith, start_first k))

  -- each field reads as the number that was written
  pub image_field : (j : ℕ) → j < places → get_or fields j 0 < 256 ^ field_bytes k j → field_in (record_bytes k fields) k j ≡ get_or fields j 0
  unfolding field_in
  image_field j l h =
      let x = get_or fields j 0 in
      let w = field_bytes k j in
      number_same (record_bytes k fields) (bytes_of w x) (offset_of k j) 0 w
      (λ i m.
      image_at (j + 1) places (offset_of k j + i) (omega arith) (omega (arith, start_next k j))
      ∙ rw (image_next j, ← image_length j, zero-add) (get_or-append-add (record_bytes_to k fields j) (bytes_of w x) i 0))
      ∙ number_bytes w x h

-- a record whose numbers are those of some bytes, up to a field, is the beginning of those bytes
pub image_back : (b fields : List ℕ) → ((i : ℕ) → get_or b i 0 < 256) → length b ≡ length_of (get_or b 0 0) → ((j : ℕ) → j < places → get_or fields j 0 ≡ field_in b (get_or b 0 0) j) → (j : ℕ) → j ≤ places → record_bytes_to (get_or b 0 0) fields j ≡ take (offset_of (get_or b 0 0) j) b
unfolding record_bytes_to field_in
image_back b fields small long same zero h = rw (← start_first (get_or b 0 0)) (sym (take-suc b 0 0 (length_some (get_or b 0 0) long)))
image_back b fields small long same (suc j) h =
    let k = get_or b 0 0 in
    let next : offset_of k (suc j) ≡ offset_of k j + field_bytes k j = ap (offset_of k) (sym (add-one j)) ∙ start_next k j in
    let inside : offset_of k j + field_bytes k j ≤ length b = omega (arith, start_mono k (suc j) places h) in
    rw (next, same j h, image_back b fields small long same j (omega arith), bytes_number b (offset_of k j) (field_bytes k j) small inside)
    (sym (take-add (offset_of k j) (field_bytes k j) b))
