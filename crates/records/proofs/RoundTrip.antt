-- Demand 2: what is written reads back, and what is read writes back.
-- Assumes nothing.
use mathlib.Core.Path.{◌≡◌, refl, sym, ap, ◌∙◌}
use mathlib.Core.Bool.{Bool, true, false, not, ◌||◌, cond}
use mathlib.Core.List.{List}
use Prim.Native.Nat.{ℕ, ◌^◌, ◌<◌}
use native.Mathlib.Omega.{arith}
use lib.Dec.{leb, eqb}
use lib.ListN.{length, get_or}
use lib.Seq.{ext_get_or, take_all}
use borrow.Author.Tests.{leb-true, eqb-true, not-false}
use Rattle.answers.specs.Answers.{malformed, out_of_range}
use Rattle.laws.specs.Filled.{filled}
use Rattle.laws.proofs.Cases.{and_right, or_left, or_right}
use Rattle.laws.proofs.Filled.{filled_length, filled_at}
use Rattle.laws.proofs.Least.{all_at}
use Rattle.record_kinds.specs.Kinds.{places, known, field_of, field_bytes, length_of, in_range, in_ranges}
use Rattle.record_kinds.specs.Typed.{kind_count}
use Rattle.records.specs.Reading.{read, taken, refused_reading, field_in, is_malformed}
use Rattle.records.specs.RoundTrip.{ReadsBack, WritesBack}
use Rattle.records.specs.Writing.{are_legal, record_bytes, misfits, write_code, written}
use Rattle.records.specs.declared.Reading as declared
use Rattle.record_kinds.proofs.Fields.{known_below, greatest_fits}
use Rattle.records.proofs.Images.{image_length, image_kind, image_field, image_back}
use Rattle.records.proofs.Returns.{legal_filled, read_legal, part_filled, write_legal}

-- a number in its range has room in its field
in_range_fits : (k j x : ℕ) → in_range k j x ≡ true → x < 256 ^ field_bytes k j
in_range_fits k j x h =
    let top = leb-true x (field_of k j).greatest (and_right (leb (field_of k j).least x) (leb x (field_of k j).greatest) h) in
    omega (arith, greatest_fits k j)

-- of two refusals and one acceptance, the accepted has passed both tests
passed : {A : Type 0} (code : A → ℕ) (x y z : A) (m l : Bool) → (code x ≡ 0 → ⊥) → (code z ≡ 0 → ⊥) → code (cond m x (cond l y z)) ≡ 0 → (m ≡ false) × (l ≡ true)
passed code x y z true l p q h = absurd (p h)
passed code x y z false true p q h = (refl, refl)
passed code x y z false false p q h = absurd (q h)

-- What the writer accepts.
module _ (k : ℕ) (fields part : List ℕ) (code : write_code k fields part ≡ 0) where
  accepted : (misfits k part ≡ false) × (are_legal k fields ≡ true)
  unfolding write_code
  accepted = passed (λ c. c) malformed 0 out_of_range (misfits k part) (are_legal k fields) (λ z. omega arith) (λ z. omega arith) code

  below : k < kind_count
  unfolding misfits
  below = known_below k (not-false (known k) (or_left (not (known k)) (not (eqb (length part) (length_of k))) accepted.0))

  -- each number has room in its field
  roomy : (j : ℕ) → j < places → get_or fields j 0 < 256 ^ field_bytes k j
  roomy j l = in_range_fits k j (get_or fields j 0) (all_at (λ i. in_range k i (get_or fields i 0)) places 0 accepted.1 j (omega arith) (omega arith))

pub reads_back : ReadsBack
reads_back k fields part long code =
    let b = record_bytes k fields in
    let kind = image_kind k fields in
    let f : fields ≡ filled (field_in b k) places places =
    ext_get_or 0 fields (filled (field_in b k) places places) (long ∙ sym (filled_length (field_in b k) places places))
    (λ j l. sym (filled_at (field_in b k) places places j (omega arith) (omega arith) ∙ image_field k fields j (omega arith) (roomy k fields part code j (omega arith)))) in
    let same : taken (get_or b 0 0) fields ≡ read b =
    read_legal b (rw kind (below k fields part code)) (rw kind (image_length k fields places))
    (rw kind f) (rw kind (accepted k fields part code).1) in
    ap read (sym (part_filled k fields part refl (sym code) refl)) ∙ sym same ∙ ap (λ (n : ℕ). taken n fields) kind

-- What the reader takes.
module _ (b : List ℕ) (code : (read b).code ≡ 0) where
  abbrev kind : ℕ
  kind = get_or b 0 0

  abbrev numbers : List ℕ
  numbers = filled (field_in b kind) places places

  accepted_read : (is_malformed b ≡ false) × (in_ranges kind (field_in b kind) ≡ true)
  unfolding read
  accepted_read = passed (λ (r : declared.Reading). r.code) (refused_reading malformed) (taken kind numbers) (refused_reading out_of_range) (is_malformed b) (in_ranges kind (field_in b kind)) (λ z. omega arith) (λ z. omega arith) code

  pub formed : (kind < kind_count) × (length b ≡ length_of kind)
  unfolding is_malformed
  formed =
      let fit = not (eqb (length b) (length_of kind)) in
      let rest = or_right (eqb (length b) 0) (not (known kind) || fit) accepted_read.0 in (
        known_below kind (not-false (known kind) (or_left (not (known kind)) fit rest)),
        eqb-true (length b) (length_of kind) (not-false (eqb (length b) (length_of kind)) (or_right (not (known kind)) fit rest)),
      )

  pub numbers_legal : true ≡ are_legal kind numbers
  numbers_legal = sym (legal_filled kind (field_in b kind) ∙ accepted_read.1)

  pub is_taken : taken kind numbers ≡ read b
  is_taken = read_legal b formed.0 formed.1 refl (sym numbers_legal)

  -- its numbers make its bytes
  back : ((i : ℕ) → get_or b i 0 < 256) → record_bytes kind numbers ≡ b
  back small =
      image_back b numbers small formed.1 (λ j l. filled_at (field_in b kind) places places j (omega arith) l) places (omega arith)
      ∙ take_all (length_of kind) b (omega (arith, formed.1))

pub writes_back : WritesBack
writes_back b part small code long =
    let k = get_or b 0 0 in
    let fields = filled (field_in b k) places places in
    let same = is_taken b code in
    let ok : 0 ≡ write_code k fields part = write_legal k fields part (formed b code).0 (long ∙ (formed b code).1) (sym (numbers_legal b code)) in
    record {
      accepted = ap (λ (r : declared.Reading). write_code r.kind r.fields part) (sym same) ∙ sym ok;
      bytes = ap (λ (r : declared.Reading). written r.kind r.fields part) (sym same) ∙ sym (part_filled k fields part refl ok refl) ∙ back b code small;
    }
