-- What each return of the reader and of the writer shows.
-- Assumes nothing.
use mathlib.Core.Path.{◌≡◌, refl, sym, ap, ◌∙◌}
use mathlib.Core.Bool.{true, false, or-true}
use mathlib.Core.List.{List, [], ◌∷◌}
use Rattle.std.specs.Prelude.{Option, Some, None, Result, Ok, Err, MatchResult, option_copied, slice_get}
use Rattle.std.specs.Borrow.{Bor}
use Rattle.std.proofs.lemmas.Option.{get_or_from_slice_get}
use Rattle.answers.specs.declared.Refusal.{Refusal}
use Rattle.answers.specs.declared.Refusal.TheVariants.{OutOfRange}
use Rattle.record_kinds.specs.Numbered.{kind_number}
use Rattle.record_kinds.specs.declared.Kind.{Kind}
use Rattle.record_kinds.proofs.Numbered.{kind_below}
use Rattle.records.specs.Outcome.{reading_of}
use Rattle.records.specs.declared.record.Record.{Record}
use Prim.Native.Nat.{ℕ, ◌≤◌, ◌<◌}
use native.Mathlib.Omega.{arith}
use lib.ListN.{length, get_or}
use borrow.Author.Tests.{eq-eqb, ne_eqb}
use Rattle.answers.specs.Answers.{malformed, out_of_range}
use Rattle.laws.specs.Filled.{filled}
use Rattle.laws.proofs.Filled.{filled_at}
use Rattle.laws.proofs.Least.{all_same}
use Rattle.record_kinds.specs.Kinds.{places, in_range, in_ranges, length_of}
use Rattle.record_kinds.specs.Typed.{kind_count}
use Rattle.records.specs.Reading.{taken, refused_reading, field_in, is_malformed, read}
use Rattle.records.specs.Writing.{are_legal, record_bytes, misfits, write_code, written}
use Rattle.records.specs.declared.Reading as declared
use Rattle.record_kinds.proofs.Fields.{kind_known, kind_unknown, length_some}

-- numbers that a rule gives are legal where the rule's are
pub legal_filled : (k : ℕ) (f : ℕ → ℕ) → are_legal k (filled f places places) ≡ in_ranges k f
legal_filled k f = all_same (λ j. in_range k j (get_or (filled f places places) j 0)) (λ j. in_range k j (f j)) places 0
    (λ j g l. ap (in_range k j) (filled_at f places places j (omega arith) (omega arith)))

-- what the making of a record of a kind from its numbers ensures
abbrev pub Made : Kind → List ℕ → Result Record Refusal → Type 0
Made kind fields r = MatchResult r (λ q. (q.kind ≡ kind) × (q.fields ≡ fields)) (λ x. (x ≡ OutOfRange) × (are_legal (kind_number kind) fields ≡ false))

-- the first byte as the reader gets it
pub first_is : (b : List ℕ) {o : Option (Bor ℕ)} {f : Bor ℕ} → option_copied o ≡ slice_get b 0 → o ≡ Some f → get_or b 0 0 ≡ f.now
first_is b {o} {f} e g = get_or_from_slice_get b 0 f.now 0 (rw g at (sym e))

pub first_none : (b : List ℕ) {o : Option (Bor ℕ)} → option_copied o ≡ slice_get b 0 → o ≡ None → length b ≡ 0
first_none [] e g = refl
first_none (x ∷ b) e g = let h = rw g at e in grind arith

module _ (b : List ℕ) where
  pub well_formed : get_or b 0 0 < kind_count → length b ≡ length_of (get_or b 0 0) → is_malformed b ≡ false
  unfolding is_malformed
  well_formed l e =
      let some : length b ≡ 0 → ⊥ = λ z. omega (arith, length_some (get_or b 0 0) e) in
      rw (ne_eqb (length b) 0 some, kind_known (get_or b 0 0) l, eq-eqb (length b) (length_of (get_or b 0 0)) e)

  module _ {r : declared.Reading} where
    pub read_empty : length b ≡ 0 → r ≡ refused_reading malformed → r ≡ read b
    unfolding read is_malformed
    read_empty h q = rw (eq-eqb (length b) 0 h) q

    pub read_unknown : kind_count ≤ get_or b 0 0 → r ≡ refused_reading malformed → r ≡ read b
    unfolding read is_malformed
    read_unknown h q = rw (kind_unknown (get_or b 0 0) h, or-true) q

    pub read_misfit : {n : ℕ} → n ≡ length_of (get_or b 0 0) → (length b ≡ n → ⊥) → r ≡ refused_reading malformed → r ≡ read b
    unfolding read is_malformed
    read_misfit e h q = rw (ne_eqb (length b) (length_of (get_or b 0 0)) (λ z. h (z ∙ sym e)), or-true, or-true) q

  module _ {fields : List ℕ} (l : get_or b 0 0 < kind_count) (e : length b ≡ length_of (get_or b 0 0)) (f : fields ≡ filled (field_in b (get_or b 0 0)) places places) where
    same : in_ranges (get_or b 0 0) (field_in b (get_or b 0 0)) ≡ are_legal (get_or b 0 0) fields
    same = sym (ap (are_legal (get_or b 0 0)) f ∙ legal_filled (get_or b 0 0) (field_in b (get_or b 0 0)))

    pub read_illegal : are_legal (get_or b 0 0) fields ≡ false → refused_reading out_of_range ≡ read b
    unfolding read
    read_illegal v = rw (well_formed l e, same ∙ v)

    pub read_legal : are_legal (get_or b 0 0) fields ≡ true → taken (get_or b 0 0) fields ≡ read b
    unfolding read
    read_legal v = rw (well_formed l e, same ∙ v, f)

  -- the first byte is that of a kind, and the numbers are those of the bytes: what is made of them
  pub read_made : (kind : Kind) {fields : List ℕ} (r : Result Record Refusal) → get_or b 0 0 ≡ kind_number kind → length b ≡ length_of (kind_number kind) → fields ≡ filled (field_in b (kind_number kind)) places places → Made kind fields r → reading_of r ≡ read b
  read_made kind (Ok q) k e f m =
      let k' : kind_number q.kind ≡ get_or b 0 0 = ap kind_number m.0 ∙ sym k in
      rw k' (read_legal (rw k (kind_below kind)) (rw k e) (rw k (m.1 ∙ f)) (rw k' at q.legal))
  read_made kind {fields = fields} (Err x) k e f m = rw m.0 (read_illegal {fields = fields} (rw k (kind_below kind)) (rw k e) (rw k f) (rw k m.1))

-- the writer that refuses by a code leaves the part
pub part_kept : (c : ℕ) → (c ≡ 0 → ⊥) → (k : ℕ) (fields part : List ℕ) → c ≡ write_code k fields part → part ≡ written k fields part
unfolding written
part_kept c some k fields part e = rw (ne_eqb (write_code k fields part) 0 (λ z. some (e ∙ z)))

module _ (k : ℕ) (fields part : List ℕ) where
  pub part_filled : {c : ℕ} {after : List ℕ} → c ≡ 0 → c ≡ write_code k fields part → after ≡ record_bytes k fields → after ≡ written k fields part
  unfolding written
  part_filled z e q = rw (← e, z) q

  pub write_unknown : kind_count ≤ k → malformed ≡ write_code k fields part
  unfolding write_code misfits
  write_unknown h = rw (kind_unknown k h)

  pub write_misfit : {n : ℕ} → n ≡ length_of k → (length part ≡ n → ⊥) → malformed ≡ write_code k fields part
  unfolding write_code misfits
  write_misfit e h = rw (ne_eqb (length part) (length_of k) (λ z. h (z ∙ sym e)), or-true)

  module _ (l : k < kind_count) (e : length part ≡ length_of k) where
    pub write_illegal : are_legal k fields ≡ false → out_of_range ≡ write_code k fields part
    unfolding write_code misfits
    write_illegal g = rw (kind_known k l, eq-eqb (length part) (length_of k) e, g)

    pub write_legal : are_legal k fields ≡ true → 0 ≡ write_code k fields part
    unfolding write_code misfits
    write_legal g = rw (kind_known k l, eq-eqb (length part) (length_of k) e, g)
