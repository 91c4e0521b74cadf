-- Bytes that are all 0: one number that has seen them, and the rows that they are.
-- Assumes nothing.
use mathlib.Core.Path.{◌≡◌, refl, sym, ◌∙◌}
use mathlib.Core.Bool.{Bool, true}
use mathlib.Core.List.{List}
use Prim.Native.Nat.{ℕ, zero, suc, ◌+◌, ◌*◌, ◌-◌, ◌/◌, ◌%◌, ◌≤◌, ◌<◌}
use native.Mathlib.Nat.{div-add-mod, div-lt_iff_lt-mul, mod-lt, mul-add, mul_comm, mul-le-mul_left}
use native.Mathlib.Decide.{ℕ_discrete}
use native.Mathlib.Omega.{arith}
use lib.Bits.{bit_or, or_add_and, and_le_l, and_le_r, or_zero_l}
use lib.Dec.{eqb}
use lib.ListN.{length, get_or, take, drop, length-take, length-drop}
use lib.Seq.{get_or-take, get_or-drop}
use borrow.Author.Tests.{eq-eqb, eqb-true}
use Rattle.laws.specs.Numbers.{number_at}
use Rattle.laws.proofs.Least.{all_at}
use Rattle.book.specs.Layout.{book_length, table_count, rows_of, width_of, base_of}
use Rattle.book.specs.State.{state}
use Rattle.book.proofs.Cells.{state_at}
use Rattle.book.proofs.Places.{rows_apart, tables_inside, width_eight}
use Rattle.facts.proofs.Truth.{agree, all_of}
use Rattle.row_tests.specs.Bytes.{empty_byte, empty_bytes, empty_rows}

-- the number that has seen the bytes below k is 0 where all of them are
pub record Seen (b : List ℕ) (k seen : ℕ) : Type 0 where
  pub none : seen ≡ 0 → (j : ℕ) → j < k → get_or b j 0 ≡ 0
  pub nothing : ((j : ℕ) → j < k → get_or b j 0 ≡ 0) → seen ≡ 0

pub or_left : (x y : ℕ) → bit_or x y ≡ 0 → x ≡ 0
or_left x y h = omega (arith, or_add_and x y, and_le_r x y)

pub or_right : (x y : ℕ) → bit_or x y ≡ 0 → y ≡ 0
or_right x y h = omega (arith, or_add_and x y, and_le_l x y)

module _ (b : List ℕ) where
  pub seen_starts : Seen b 0 0
  seen_starts = record { none = λ h j l. absurd (omega arith); nothing = λ h. refl }

  pub seen_next : {k seen : ℕ} → Seen b k seen → Seen b (k + 1) (bit_or seen (get_or b k 0))
  seen_next {k} {seen} r = record {
    none = λ h j l. elim (ℕ_discrete j k) [
      | yes q ↦ rw q (or_right seen (get_or b k 0) h)
      | no q ↦ r.none (or_left seen (get_or b k 0) h) j (omega arith)
    ];
    nothing = λ h. rw (r.nothing (λ j l. h j (omega arith)), or_zero_l) (h k (omega arith));
  }

  pub seen_ends : {k seen : ℕ} → k ≤ length b → length b ≤ k → Seen b k seen → eqb seen 0 ≡ empty_bytes b
  seen_ends {k} {seen} h g r = agree
      (λ p. all_of (empty_byte b) (length b) 0 (λ j a l. eq-eqb (get_or b j 0) 0 (r.none (eqb-true seen 0 p) j (omega arith))))
      (λ p. eq-eqb seen 0 (r.nothing (λ j l. eqb-true (get_or b j 0) 0 (all_at (empty_byte b) (length b) 0 p j (omega arith) (omega arith)))))

-- a number is 0 where all its bytes are, and only there
module _ (b : List ℕ) (p : ℕ) where
  zero_number : (w : ℕ) → ((r : ℕ) → r < w → get_or b (p + r) 0 ≡ 0) → number_at b p w ≡ 0
  unfolding number_at
  zero_number zero h = refl
  zero_number (suc w) h =
      let high : number_at b p w ≡ 0 = zero_number w (λ r l. h r (omega arith)) in
      let low : get_or b (p + w) 0 ≡ 0 = h w (omega arith) in
      omega arith

  number_zero : (w : ℕ) → number_at b p w ≡ 0 → (r : ℕ) → r < w → get_or b (p + r) 0 ≡ 0
  unfolding number_at
  number_zero zero h r l = absurd (omega arith)
  number_zero (suc w) h r l =
      let high : number_at b p w ≡ 0 = omega arith in
      elim (ℕ_discrete r w) [
        | yes q ↦ rw q (omega arith)
        | no q ↦ number_zero w high r (omega arith)
      ]

-- a row has bytes
width_some : (f i : ℕ) → i < rows_of f → 0 < width_of f
width_some f i l = elim (ℕ_discrete (width_of f) 4) [ yes q ↦ omega arith | no q ↦ omega (arith, width_eight f i l q) ]

-- rows end within the book
pub rows_end : (f start n : ℕ) {at w : ℕ} → f < table_count → start + n ≤ rows_of f → at ≡ base_of f → w ≡ width_of f → at + w * start + w * n ≤ book_length
rows_end f start n {at} {w} l h p q =
    let most : width_of f * (start + n) ≤ width_of f * rows_of f = mul-le-mul_left (width_of f) h in
    let whole : base_of f + rows_of f * width_of f ≤ book_length = tables_inside f l in
    rw (p, q) (omega (arith, most, whole, mul-add (width_of f) start n, mul_comm (rows_of f) (width_of f)))

-- n rows of a table, as the bytes that they are
module _ (b : List ℕ) (f start n : ℕ) {at w : ℕ} (long : length b ≡ book_length) (table : f < table_count) (here : at ≡ base_of f) (wide : w ≡ width_of f) (few : 0 < n) (rows : start + n ≤ rows_of f) where
  some : 0 < w
  some = rw wide (width_some f start (omega arith))

  abbrev from : ℕ
  from = at + w * start

  abbrev part : List ℕ
  part = take (w * n) (drop from b)

  row_is : (i : ℕ) → i < n → state b f (start + i) ≡ number_at b (from + w * i) w
  row_is i l =
      let place : at + w * (start + i) ≡ from + w * i = omega (arith, mul-add w start i) in
      state_at b f (start + i) (omega arith) ∙ rw (← here, ← wide, place)

  part_at : (j : ℕ) → j < w * n → get_or part j 0 ≡ get_or b (from + j) 0
  part_at j l = rw (get_or-take, get_or-drop)

  part_long : length part ≡ w * n
  part_long = simp (length-take, length-drop) (omega (arith, rows_end f start n table rows here wide))

  -- the byte j is one of the row j / w
  byte_zero : ((i : ℕ) → i < n → number_at b (from + w * i) w ≡ 0) → (j : ℕ) → j < w * n → get_or b (from + j) 0 ≡ 0
  byte_zero h j l =
      let i = j / w in
      let row : i < n = (div-lt_iff_lt-mul some).1 (omega (arith, mul_comm w n)) in
      let place : from + j ≡ from + w * i + j % w = omega (arith, div-add-mod j w) in
      rw place (number_zero b (from + w * i) w (h i row) (j % w) (mod-lt j some))

  -- the byte r of the row i
  byte_of_row : ((j : ℕ) → j < w * n → get_or b (from + j) 0 ≡ 0) → (i : ℕ) → i < n → (r : ℕ) → r < w → get_or b (from + w * i + r) 0 ≡ 0
  byte_of_row h i l r m =
      let place : from + w * i + r ≡ from + (w * i + r) = omega arith in
      rw place (h (w * i + r) (omega (arith, rows_apart w l)))

  part_zero : empty_bytes part ≡ true → (j : ℕ) → j < w * n → get_or b (from + j) 0 ≡ 0
  part_zero p j l = sym (part_at j l) ∙ eqb-true (get_or part j 0) 0 (all_at (empty_byte part) (length part) 0 p j (omega arith) (omega (arith, part_long)))

  zero_part : ((j : ℕ) → j < w * n → get_or b (from + j) 0 ≡ 0) → empty_bytes part ≡ true
  zero_part h =
      all_of (empty_byte part) (length part) 0 (λ j a l.
      let m : j < w * n = omega (arith, part_long) in
      eq-eqb (get_or part j 0) 0 (part_at j m ∙ h j m))

  part_rows : empty_bytes part ≡ empty_rows (state b) f start n
  part_rows =
      let t : ℕ → Bool = λ i. eqb (state b f (start + i)) 0 in
      agree
      (λ p. all_of t n 0 (λ i a l.
      let m : i < n = omega arith in
      eq-eqb (state b f (start + i)) 0 (row_is i m ∙ zero_number b (from + w * i) w (byte_of_row (part_zero p) i m))))
      (λ p. zero_part (byte_zero (λ i m. sym (row_is i m) ∙ eqb-true (state b f (start + i)) 0 (all_at t n 0 p i (omega arith) (omega arith)))))

  pub rows_empty : {r : Bool} → r ≡ empty_bytes (take (from + w * n - from) (drop from b)) → r ≡ empty_rows (state b) f start n
  rows_empty q = let long : from + w * n - from ≡ w * n = omega arith in (rw long at q) ∙ part_rows
