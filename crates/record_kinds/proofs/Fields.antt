-- The table of kinds: the code's names for its fields, widths and ranges that fit at every place, and fields that lie one after the other.
-- Assumes nothing.
use mathlib.Core.Path.{◌≡◌, refl, sym, ap, ◌∙◌}
use mathlib.Core.Bool.{Bool, true, false}
use mathlib.Core.List.{List, [], ◌∷◌, ◌++◌, map}
use Prim.Native.Nat.{ℕ, zero, suc, ◌+◌, ◌*◌, ◌-◌, ◌^◌, ◌≤◌, ◌<◌}
use native.Mathlib.Omega.{arith}
use lib.Dec.{T, leb, ltb, leb→le, ltb→lt, eqb→eq}
use lib.ListN.{length, get_or, replicate, get_or-map}
use borrow.Author.Tests.{ne_eqb, lt-ltb, le-ltb, ltb-true}
use mir.Val.{Fits}
use mir.Syntax.{w64}
use Rattle.laws.proofs.Table.{each, each_at}
use Rattle.laws.proofs.Sum.{sum_next, sum_le, sum_mono}
use Rattle.laws.specs.Sum.{sum}
use Rattle.record_kinds.specs.Kinds.{kinds, places, empty, known, field_of, field_bytes, offset_of, length_of}
use Rattle.record_kinds.specs.Typed.{kind_count, typed, row, is_width}
use Rattle.record_kinds.specs.declared.Field.{Field}
use Rattle.record_kinds.specs.declared.FieldType.{FieldType}
use Rattle.record_kinds.specs.declared.FieldType.TheVariants.{Empty}

-- the code's count of the kinds is the table's
pub kind_known : (k : ℕ) → k < kind_count → known k ≡ true
unfolding kinds
kind_known k l = lt-ltb k kind_count l

pub kind_unknown : (k : ℕ) → kind_count ≤ k → known k ≡ false
unfolding kinds
kind_unknown k l = le-ltb k kind_count l

pub known_below : (k : ℕ) → known k ≡ true → k < kind_count
unfolding kinds
known_below k h = ltb-true k kind_count h

-- a list with more of what stands for none is the same list
padded : {A : Type 0} (l : List A) (n j : ℕ) (d : A) → get_or (l ++ replicate n d) j d ≡ get_or l j d
padded [] zero j d = refl
padded [] (suc n) zero d = refl
padded [] (suc n) (suc j) d = padded [] n j d
padded (x ∷ l) n zero d = refl
padded (x ∷ l) n (suc j) d = padded l n j d

-- the type at a place of a kind's row is its field's
pub type_at : (k j : ℕ) (types : List FieldType) {f : Field} → map typed types ≡ row k → f ≡ typed (get_or types j Empty) → f ≡ field_of k j
type_at k j types e g =
    g
    ∙ sym (get_or-map typed types j Empty)
    ∙ ap (λ (fs : List Field). get_or fs j empty) e
    ∙ padded (get_or kinds k []) (places - length (get_or kinds k [])) j empty

-- a test that each field of the table passes, and the empty one, is passed at every place
each_field : (t : Field → Bool) → T (each (each t) kinds) → T (t empty) → (k j : ℕ) → T (t (field_of k j))
each_field t h e k j = each_at t (get_or kinds k []) empty (each_at (each t) kinds [] h tt k) e j

-- a field has at most eight bytes
narrow : Field → Bool
narrow f = leb f.bytes 8

-- each number in a field's range has room in its bytes
fitting : Field → Bool
fitting f = ltb f.greatest (256 ^ f.bytes)

-- a field has one of the widths that the code reads and writes
usual : Field → Bool
usual f = is_width f.bytes

width_le : (k j : ℕ) → field_bytes k j ≤ 8
unfolding kinds narrow
width_le k j = leb→le (field_bytes k j) 8 (each_field narrow tt tt k j)

pub greatest_fits : (k j : ℕ) → (field_of k j).greatest < 256 ^ field_bytes k j
unfolding kinds fitting
greatest_fits k j = ltb→lt (field_of k j).greatest (256 ^ field_bytes k j) (each_field fitting tt tt k j)

pub field_usual : (k j : ℕ) {f : Field} → f ≡ field_of k j → T (is_width f.bytes)
unfolding kinds usual
field_usual k j it = rw it (each_field usual tt tt k j)

-- a width that is none of the others
pub width_eight : {w : ℕ} → T (is_width w) → (w ≡ 0 → ⊥) → (w ≡ 1 → ⊥) → (w ≡ 2 → ⊥) → (w ≡ 4 → ⊥) → w ≡ 8
width_eight {w} h n0 n1 n2 n4 = eqb→eq w 8 (rw (ne_eqb w 0 n0, ne_eqb w 1 n1, ne_eqb w 2 n2, ne_eqb w 4 n4) at h)

pub start_first : (k : ℕ) → 1 ≡ offset_of k 0
unfolding offset_of sum
start_first k = refl

pub start_next : (k j : ℕ) → offset_of k (j + 1) ≡ offset_of k j + field_bytes k j
unfolding offset_of
start_next k j = omega (arith, sum_next (field_bytes k) j)

pub start_mono : (k i j : ℕ) → i ≤ j → offset_of k i ≤ offset_of k j
unfolding offset_of
start_mono k i j h = omega (arith, sum_mono (field_bytes k) i j h)

pub start_le : (k j : ℕ) → offset_of k j ≤ 1 + 8 * j
unfolding offset_of
start_le k j = omega (arith, sum_le (field_bytes k) 8 j (λ i l. width_le k i))

pub length_some : (k : ℕ) {n : ℕ} → n ≡ length_of k → 0 < n
length_some k e = omega (arith, start_first k, start_mono k 0 places (omega arith))

-- A place that the code counts to by the widths, and the field that it has in hand.
module _ (k j : ℕ) {at : ℕ} {f : Field} (here : at ≡ offset_of k j) (it : f ≡ field_of k j) where
  pub place_next : at + f.bytes ≡ offset_of k (j + 1)
  place_next = rw (here, it) (sym (start_next k j))

  pub place_inside : {n : ℕ} → j < places → n ≡ length_of k → at + f.bytes ≤ n
  place_inside l e = omega (arith, place_next, start_mono k (j + 1) places (omega arith))

  pub place_fits : j < places → Fits w64 (at + f.bytes)
  place_fits l = omega (arith, place_next, start_le k (j + 1))
