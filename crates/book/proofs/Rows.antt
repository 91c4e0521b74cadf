-- A row of 64 numbers lent by itself: changed one after the other, and back in the book.
-- Assumes nothing.
use mathlib.Core.Path.{◌≡◌, refl, sym, ap, ◌∙◌, fun_ext}
use mathlib.Core.List.{List, ◌++◌}
use Prim.Native.Nat.{ℕ, ◌+◌, ◌*◌, ◌-◌, ◌≤◌, ◌<◌}
use native.Mathlib.Nat.{add-zero}
use native.Mathlib.Decide.{ℕ_discrete}
use native.Mathlib.Omega.{arith}
use lib.ListN.{length, get_or, take, drop, length-take, length-drop}
use Rattle.laws.specs.Numbers.{number_at, bytes_of}
use Rattle.laws.proofs.Numbers.{bytes_length, number_bytes, number_small}
use Rattle.laws.proofs.Patches.{patched, patch_length, number_in, number_before, number_after, number_part, lent_back}
use Rattle.book.specs.Layout.{rows_of, width_of, base_of, place_of, book_length, table_count}
use Rattle.book.specs.Row.{Changed, RowChangeable}
use Rattle.book.specs.State.{state}
use Rattle.book.proofs.Moves.{among, moved, moved_in, moved_out}
use Rattle.book.proofs.Cells.{state_at, cell_in, cell_out}

module _ (gives : ℕ → ℕ → ℕ → Type 0) (row by : List ℕ) where
  pub change_start : length row ≡ 256 → Changed gives row by 0 row
  change_start h = record { long = h; done = λ i l. absurd (omega arith); rest = λ i l m. refl }

  -- one number more, in the code's i + 1
  pub change_next : (was after : List ℕ) (i x y : ℕ) → i < 64 → Changed gives row by i was → x ≡ number_at was (4 * i) 4 → gives x (get_or by i 0) y → y < 4294967296 → after ≡ patched was (4 * i) 4 (bytes_of 4 y) → Changed gives row by (i + 1) after
  change_next was after i x y h c e given small put =
      let new = patched was (4 * i) 4 (bytes_of 4 y) in
      let size : length (bytes_of 4 y) ≡ 4 = bytes_length 4 y in
      let room : 4 * i + 4 ≤ length was = omega arith in
      let here : number_at new (4 * i) 4 ≡ y =
      ap (λ (p : ℕ). number_at new p 4) (sym (add-zero (4 * i))) ∙ number_in was (bytes_of 4 y) (4 * i) 4 size room 0 4 (omega arith) ∙ number_bytes 4 y small in
      let old : x ≡ number_at row (4 * i) 4 = e ∙ c.rest i (omega arith) h in
      rw put (record {
        long = patch_length was (bytes_of 4 y) (4 * i) 4 size room ∙ c.long;
        done = λ j l.
            elim (ℕ_discrete j i) [
              | yes k ↦ rw (k, here) (rw old at given)
              | no k ↦ rw (number_before was (bytes_of 4 y) (4 * i) 4 size room (4 * j) 4 (omega arith)) (c.done j (omega arith))
            ];
        rest = λ j l m. number_after was (bytes_of 4 y) (4 * i) 4 size room (4 * j) 4 (omega arith) ∙ c.rest j (omega arith) m;
      })

  pub change_end : (i : ℕ) (after : List ℕ) → i ≤ 64 → 64 ≤ i → Changed gives row by i after → Changed gives row by 64 after
  change_end i after l m c = let e : i ≡ 64 = omega arith in rw e at c

-- the row that is lent: 64 numbers of a table of four bytes a row
module _ (b : List ℕ) (f start : ℕ) (whole : length b ≡ book_length) (table : f < table_count) (width : width_of f ≡ 4) (rows : start + 64 ≤ rows_of f) where
  pub row_number : (i : ℕ) → i < 64 → number_at (take 256 (drop (base_of f + 4 * start) b)) (4 * i) 4 ≡ state b f (start + i)
  row_number i h =
      let place : base_of f + 4 * start + 4 * i ≡ base_of f + 4 * (start + i) = omega arith in
      number_part b (base_of f + 4 * start) 256 (4 * i) 4 (omega arith)
      ∙ ap (λ (p : ℕ). number_at b p 4) place
      ∙ sym (state_at b f (start + i) (omega arith) ∙ rw width)

  pub row_small : ((k : ℕ) → get_or b k 0 < 256) → (i : ℕ) → i < 64 → state b f (start + i) < 4294967296
  row_small small i h = rw (state_at b f (start + i) (omega arith), width) (number_small b (base_of f + 4 * (start + i)) 4 small)

  -- the book's state once it is back
  module _ (change : ℕ → ℕ → ℕ) (by ys : List ℕ) (long : length ys ≡ 256) (changed : (i : ℕ) → i < 64 → number_at ys (4 * i) 4 ≡ change (state b f (start + i)) (get_or by i 0)) where
    same : patched b (place_of f start) (width_of f * 64) ys ≡ patched b (base_of f + 4 * start) 256 ys
    same = rw width

    sized : length ys ≡ width_of f * 64
    sized = long ∙ rw width

    inside : (j : ℕ) → start ≤ j → j < start + 64 → state (patched b (base_of f + 4 * start) 256 ys) f j ≡ change (state b f j) (get_or by (j - start) 0)
    inside j h l =
        let k = j - start in
        let e : start + k ≡ j = omega arith in
        ap (λ (d : List ℕ). state d f j) (sym same)
        ∙ cell_in b ys f start 64 whole table rows sized j h l
        ∙ rw width (changed k (omega arith))
        ∙ ap (λ (n : ℕ). change (state b f n) (get_or by k 0)) e

    outside : (g j : ℕ) → (g ≡ f → start ≤ j → j < start + 64 → ⊥) → state (patched b (base_of f + 4 * start) 256 ys) g j ≡ state b g j
    outside g j apart = ap (λ (d : List ℕ). state d g j) (sym same) ∙ cell_out b ys f start 64 whole table rows sized g j apart

    pub row_back : state (patched b (base_of f + 4 * start) 256 ys) ≡ moved change (state b) f start by
    row_back =
        fun_ext (λ g.
        fun_ext (λ j.
        elim (among f start g j) [
          | yes t ↦ rw t.0 (inside j t.1 t.2) ∙ sym (moved_in change (state b) f start by g j t.0 t.1 t.2)
          | no n ↦ outside g j (λ e h l. n (e, h, l)) ∙ sym (moved_out change (state b) f start by g j (λ e h l. n (e, h, l)))
        ]))

  -- in the code's numbers: where the part begins, and how long it is
  module _ {at : ℕ} (place : at ≡ base_of f + 4 * start) where
    size : at + 256 - at ≡ 256
    size = omega arith

    lent_long : at + 256 ≤ book_length → length (take 256 (drop at b)) ≡ 256
    lent_long l = simp (length-take, length-drop) (omega arith)

    -- what may be done of the book's numbers may be done of the part's
    pub lent_changeable : {may : ℕ → ℕ → Type 0} {gives : ℕ → ℕ → ℕ → Type 0} (by : List ℕ) → at + 256 ≤ book_length
        → ((i : ℕ) → i < 64 → may (state b f (start + i)) (get_or by i 0))
        → ((i : ℕ) → i < 64 → (y : ℕ) → gives (state b f (start + i)) (get_or by i 0) y → y < 4294967296)
        → RowChangeable may gives (take (at + 256 - at) (drop at b)) by
    lent_changeable by l m g =
        rw size (record {
          long = lent_long l;
          may_be = λ i h. rw (place, row_number i h) (m i h);
          fits = λ i h y t. g i h y (rw (place, row_number i h) at t);
        })

    pub lent_changed : (change : ℕ → ℕ → ℕ) {gives : ℕ → ℕ → ℕ → Type 0} (by ys : List ℕ)
        → ((i : ℕ) → i < 64 → (y : ℕ) → gives (state b f (start + i)) (get_or by i 0) y → y ≡ change (state b f (start + i)) (get_or by i 0))
        → Changed gives (take (at + 256 - at) (drop at b)) by 64 ys
        → state (take at b ++ (ys ++ drop (at + 256 - at) (drop at b))) ≡ moved change (state b) f start by
    lent_changed change by ys g c =
        rw (lent_back b ys at (at + 256 - at), size, place)
        (row_back change by ys c.long (λ i h. g i h (number_at ys (4 * i) 4) (let d = rw (size, place) at c.done i h in rw (row_number i h) at d)))
