-- The state after bytes are put into rows of a table.
-- Assumes nothing.
use mathlib.Core.Path.{◌≡◌, sym, ap, ◌∙◌, fun_ext}
use mathlib.Core.List.{List}
use Prim.Native.Nat.{ℕ, ◌+◌, ◌*◌, ◌-◌, ◌^◌, ◌≤◌, ◌<◌}
use native.Mathlib.Nat.{mul-le-mul_left, mul-add, mul_comm, mul-one, mul-zero, add_assoc, sub_self}
use native.Mathlib.Decide.{ℕ_discrete, dec_lt}
use native.Mathlib.Omega.{arith}
use borrow.Author.Tests.{lt-ltb, le-ltb, eq-eqb, ne_eqb}
use lib.ListN.{length}
use Rattle.laws.specs.Numbers.{number_at, bytes_of}
use Rattle.laws.proofs.Numbers.{bytes_length, number_bytes}
use Rattle.laws.proofs.Patches.{patched, number_in, number_before, number_after}
use Rattle.book.specs.Layout.{rows_of, width_of, size_of, base_of, place_of, book_length, table_count}
use Rattle.book.specs.State.{state, put}
use Rattle.book.proofs.Places.{rows_apart, tables_apart, tables_inside, row_inside, row_of}

-- a row that the layout has, and one that it has not
pub state_at : (b : List ℕ) (f i : ℕ) → i < rows_of f → state b f i ≡ number_at b (place_of f i) (width_of f)
unfolding state
state_at b f i h = rw (lt-ltb i (rows_of f) h)

pub state_none : (b : List ℕ) (f i : ℕ) → rows_of f ≤ i → state b f i ≡ 0
unfolding state
state_none b f i h = rw (le-ltb i (rows_of f) h)

-- the bytes of n rows from a row on
module _ (b ys : List ℕ) (f start n : ℕ) (whole : length b ≡ book_length) (table : f < table_count) (rows : start + n ≤ rows_of f) (long : length ys ≡ width_of f * n) where
  ends : place_of f start + width_of f * n ≤ base_of f + size_of f
  ends =
      let inside : width_of f * (start + n) ≤ width_of f * rows_of f = mul-le-mul_left (width_of f) rows in
      let sum = rw (mul-add (width_of f) start n, mul_comm (width_of f) (rows_of f)) at inside in
      omega (arith, sum)

  fits : place_of f start + width_of f * n ≤ length b
  fits = omega (arith, tables_inside f table, ends)

  -- one of them
  pub cell_in : (j : ℕ) → start ≤ j → j < start + n → state (patched b (place_of f start) (width_of f * n) ys) f j ≡ number_at ys (width_of f * (j - start)) (width_of f)
  cell_in j h l =
      let k = j - start in
      let e : j ≡ start + k = omega arith in
      let place : place_of f j ≡ place_of f start + width_of f * k = ap (place_of f) e ∙ rw (mul-add (width_of f) start k) (sym (add_assoc (base_of f) (width_of f * start) (width_of f * k))) in
      state_at _ f j (omega arith) ∙ rw place (number_in b ys (place_of f start) (width_of f * n) long fits (width_of f * k) (width_of f) (rows_apart (width_of f) (omega arith)))

  -- a row of the layout that is none of them
  other : (g j : ℕ) → (g ≡ f → start ≤ j → j < start + n → ⊥) → j < rows_of g → Dec (g < f) → Dec (f < g) → Dec (j < start) → number_at (patched b (place_of f start) (width_of f * n) ys) (place_of g j) (width_of g) ≡ number_at b (place_of g j) (width_of g)
  other g j apart l (yes h) d t =
      number_before b ys (place_of f start) (width_of f * n) long fits (place_of g j) (width_of g) (omega (arith, row_inside g j l, tables_apart g f h))
  other g j apart l (no h) (yes m) t =
      number_after b ys (place_of f start) (width_of f * n) long fits (place_of g j) (width_of g) (omega (arith, ends, tables_apart f g m))
  other g j apart l (no h) (no m) (yes t) =
      let e : g ≡ f = omega arith in
      rw e (number_before b ys (place_of f start) (width_of f * n) long fits (place_of f j) (width_of f) (omega (arith, rows_apart (width_of f) t)))
  other g j apart l (no h) (no m) (no t) =
      let e : g ≡ f = omega arith in
      let past : start + n ≤ j = elim (dec_lt j (start + n)) [ yes k ↦ absurd (apart e (omega arith) k) | no k ↦ omega arith ] in
      let far : width_of f * (start + n) ≤ width_of f * j = mul-le-mul_left (width_of f) past in
      let sum = rw (mul-add (width_of f) start n) at far in
      rw e (number_after b ys (place_of f start) (width_of f * n) long fits (place_of f j) (width_of f) (omega (arith, sum)))

  -- every number that is none of them stays
  pub cell_out : (g j : ℕ) → (g ≡ f → start ≤ j → j < start + n → ⊥) → state (patched b (place_of f start) (width_of f * n) ys) g j ≡ state b g j
  cell_out g j apart =
      elim (dec_lt j (rows_of g)) [
        | yes l ↦ state_at _ g j l ∙ other g j apart l (dec_lt g f) (dec_lt f g) (dec_lt j start) ∙ sym (state_at b g j l)
        | no l ↦ state_none _ g j (omega arith) ∙ sym (state_none b g j (omega arith))
      ]

-- the bytes with one number put
abbrev pub cell_put : List ℕ → ℕ → ℕ → ℕ → List ℕ
cell_put b f i x = patched b (place_of f i) (width_of f) (bytes_of (width_of f) x)

-- the state with one number put
module _ (b : List ℕ) (f i x : ℕ) (whole : length b ≡ book_length) (row : i < rows_of f) (small : x < 256 ^ width_of f) where
  one : patched b (place_of f i) (width_of f * 1) (bytes_of (width_of f) x) ≡ cell_put b f i x
  one = ap (λ (m : ℕ). patched b (place_of f i) m (bytes_of (width_of f) x)) (mul-one (width_of f))

  sized : length (bytes_of (width_of f) x) ≡ width_of f * 1
  sized = bytes_length (width_of f) x ∙ sym (mul-one (width_of f))

  here : state (cell_put b f i x) f i ≡ x
  here =
      ap (λ (l : List ℕ). state l f i) (sym one)
      ∙ cell_in b (bytes_of (width_of f) x) f i 1 whole (row_of f i row) (omega arith) sized i (omega arith) (omega arith)
      ∙ rw (sub_self i, mul-zero (width_of f)) (number_bytes (width_of f) x small)

  there : (g j : ℕ) → (g ≡ f → j ≡ i → ⊥) → state (cell_put b f i x) g j ≡ state b g j
  there g j apart =
      ap (λ (l : List ℕ). state l g j) (sym one)
      ∙ cell_out b (bytes_of (width_of f) x) f i 1 whole (row_of f i row) (omega arith) sized g j (λ e h l. apart e (omega arith))

  at_each : (g j : ℕ) → Dec (g ≡ f) → Dec (j ≡ i) → state (cell_put b f i x) g j ≡ put (state b) f i x g j
  at_each g j (yes e) (yes k) = rw (eq-eqb g f e, eq-eqb j i k, e, k) here
  at_each g j (yes e) (no k) = rw (eq-eqb g f e, ne_eqb j i k) (there g j (λ m n. k n))
  at_each g j (no e) d = rw (ne_eqb g f e) (there g j (λ m n. e m))

  pub put_state : state (cell_put b f i x) ≡ put (state b) f i x
  put_state = fun_ext (λ g. fun_ext (λ j. at_each g j (ℕ_discrete g f) (ℕ_discrete j i)))

-- in the code's numbers: a number read, and a number written
pub cell_read : (b : List ℕ) (f i : ℕ) {at k r : ℕ} → i < rows_of f → at ≡ base_of f → k ≡ width_of f → r ≡ number_at b (at + k * i) k → r ≡ state b f i
cell_read b f i row base width e = e ∙ rw (base, width) (sym (state_at b f i row))

pub cell_written : (b after : List ℕ) (f i x : ℕ) {at k : ℕ} → length b ≡ book_length → i < rows_of f → x < 256 ^ width_of f → at ≡ base_of f → k ≡ width_of f → after ≡ patched b (at + k * i) k (bytes_of k x) → state after ≡ put (state b) f i x
cell_written b after f i x whole row small base width e = ap state (e ∙ rw (base, width)) ∙ put_state b f i x whole row small
