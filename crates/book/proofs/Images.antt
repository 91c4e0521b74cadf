-- A book's bytes and its state stand for each other; what a put changes, and that it keeps numbers within their bytes.
-- Assumes nothing.
use mathlib.Core.Path.{◌≡◌, refl, sym, ap, ◌∙◌, fun_ext}
use mathlib.Core.List.{List}
use Prim.Native.Nat.{ℕ, zero, suc, ◌+◌, ◌*◌, ◌^◌, ◌≤◌, ◌<◌}
use native.Mathlib.Nat.{mul-suc, mul-zero, mul_comm, add_assoc, zero-add, le_refl}
use native.Mathlib.Decide.{ℕ_discrete, dec_lt}
use native.Mathlib.Omega.{arith}
use borrow.Author.Tests.{eq-eqb, ne_eqb}
use lib.Dec.{lit≤}
use lib.ListN.{length, get_or, take, drop}
use lib.Seq.{take_all, take-add, drop-drop}
use Rattle.laws.specs.Numbers.{number_at, bytes_of}
use Rattle.laws.specs.Sum.{sum}
use Rattle.laws.proofs.Numbers.{number_same, number_bytes, bytes_number, bytes_length, number_small}
use Rattle.laws.proofs.Chains.{chain, sum_equal, chain_length, chain_at}
use Rattle.book.specs.Layout.{rows_of, width_of, size_of, base_of, place_of, book_length, table_count}
use Rattle.book.specs.State.{State, state, put, rows_image, image_to, image}
use Rattle.book.specs.Fits.{Fits}
use Rattle.book.proofs.Places.{tables_inside, row_inside, row_of, whole}
use Rattle.book.proofs.Cells.{state_at, state_none}

-- the bytes of a state's rows and tables, one after the other
module _ (s : State) where
  row_bytes : ℕ → ℕ → List ℕ
  row_bytes f i = bytes_of (width_of f) (s f i)

  rows_chain : (f n : ℕ) → rows_image s f n ≡ chain (row_bytes f) n
  unfolding rows_image chain row_bytes
  rows_chain f zero = refl
  rows_chain f (suc n) = rw (rows_chain f n)

  table_bytes : ℕ → List ℕ
  table_bytes f = rows_image s f (rows_of f)

  tables_chain : (n : ℕ) → image_to s n ≡ chain table_bytes n
  unfolding image_to chain table_bytes
  tables_chain zero = refl
  tables_chain (suc n) = rw (tables_chain n)

  row_length : (f i : ℕ) → length (row_bytes f i) ≡ width_of f
  unfolding row_bytes
  row_length f i = bytes_length (width_of f) (s f i)

  table_length : (f : ℕ) → length (table_bytes f) ≡ size_of f
  unfolding table_bytes
  table_length f =
      ap length (rows_chain f (rows_of f))
      ∙ chain_length (row_bytes f) (λ i. width_of f) (row_length f) (rows_of f)
      ∙ sum_equal (width_of f) (rows_of f)
      ∙ mul_comm (width_of f) (rows_of f)

  pub image_length : length (image s) ≡ book_length
  unfolding base_of
  image_length = ap length (tables_chain table_count) ∙ chain_length table_bytes size_of table_length table_count ∙ whole

  -- the byte k of a row
  image_at : (f i k : ℕ) → i < rows_of f → k < width_of f → get_or (image s) (place_of f i + k) 0 ≡ get_or (bytes_of (width_of f) (s f i)) k 0
  unfolding base_of table_bytes row_bytes
  image_at f i k h l =
      let in_table : width_of f * i + k < size_of f = omega (arith, row_inside f i h) in
      rw (tables_chain table_count, add_assoc (base_of f) (width_of f * i) k)
      (chain_at table_bytes size_of table_length table_count f (width_of f * i + k) (row_of f i h) in_table
      ∙ rw (rows_chain f (rows_of f), ← sum_equal (width_of f) i) (chain_at (row_bytes f) (λ j. width_of f) (row_length f) (rows_of f) i k h l))

  image_number : Fits s → (f i : ℕ) → i < rows_of f → number_at (image s) (place_of f i) (width_of f) ≡ s f i
  image_number fit f i h =
      number_same (image s) (bytes_of (width_of f) (s f i)) (place_of f i) 0 (width_of f) (λ k l. rw (zero-add k) (image_at f i k h l))
      ∙ number_bytes (width_of f) (s f i) (fit.fits f i h)

  image_each : Fits s → (f i : ℕ) → state (image s) f i ≡ s f i
  image_each fit f i =
      elim (dec_lt i (rows_of f)) [
        | yes l ↦ state_at (image s) f i l ∙ image_number fit f i l
        | no l ↦ state_none (image s) f i (omega arith) ∙ sym (fit.blank f i (omega arith))
      ]

  -- a state whose numbers fit comes back from its bytes
  pub state_image : Fits s → state (image s) ≡ s
  state_image fit = fun_ext (λ f. fun_ext (λ i. image_each fit f i))

-- bytes that fill a book come back from its state
module _ (b : List ℕ) (long : length b ≡ book_length) (small : (i : ℕ) → get_or b i 0 < 256) where
  rows_back : (f n : ℕ) → f < table_count → n ≤ rows_of f → rows_image (state b) f n ≡ take (width_of f * n) (drop (base_of f) b)
  unfolding rows_image
  rows_back f zero h l = rw (mul-zero (width_of f))
  rows_back f (suc n) h l =
      let w = width_of f in
      let inside : place_of f n + w ≤ length b = omega (arith, row_inside f n l, tables_inside f h) in
      rw (rows_back f n h (omega arith), state_at b f n l, bytes_number b (place_of f n) w small inside, mul-suc w n, take-add (w * n) w (drop (base_of f) b), drop-drop (w * n) (base_of f) b)

  tables_back : (n : ℕ) → n ≤ table_count → image_to (state b) n ≡ take (base_of n) b
  unfolding image_to base_of sum
  tables_back zero h = refl
  tables_back (suc n) h =
      rw (tables_back n (omega arith), rows_back n (rows_of n) h (le_refl _), mul_comm (width_of n) (rows_of n))
      (sym (take-add (base_of n) (size_of n) b))

  pub image_state : image (state b) ≡ b
  image_state = tables_back table_count (lit≤ tt) ∙ take_all (base_of table_count) b (omega (arith, whole))

  pub state_fits : Fits (state b)
  state_fits =
      record {
        fits = λ f i h. rw (state_at b f i h) (number_small b (place_of f i) (width_of f) small);
        blank = λ f i h. state_none b f i h;
      }

-- what a put changes: the row itself, another row of the table, another table
module _ (s : State) (f i x : ℕ) where
  pub put_same : put s f i x f i ≡ x
  put_same = rw (eq-eqb f f refl, eq-eqb i i refl)

  pub put_other : (j : ℕ) → (j ≡ i → ⊥) → put s f i x f j ≡ s f j
  put_other j h = rw (eq-eqb f f refl, ne_eqb j i h)

  pub put_apart : (g j : ℕ) → (g ≡ f → ⊥) → put s f i x g j ≡ s g j
  put_apart g j h = rw (ne_eqb g f h)

  -- so whatever holds of the new number where it stands, and of all the others, holds of each
  pub put_cases : (P : ℕ → Type 0) (g j : ℕ) → (g ≡ f → j ≡ i → P x) → ((g ≡ f → j ≡ i → ⊥) → P (s g j)) → P (put s f i x g j)
  put_cases P g j this others =
      elim (ℕ_discrete g f) [
        | yes e ↦
            elim (ℕ_discrete j i) [
              | yes k ↦ rw (eq-eqb g f e, eq-eqb j i k) (this e k)
              | no k ↦ rw (eq-eqb g f e, ne_eqb j i k) (others (λ a b. k b))
            ]
        | no e ↦ rw (ne_eqb g f e) (others (λ a b. e a))
      ]

  pub put_fits : Fits s → f < table_count → i < rows_of f → x < 256 ^ width_of f → Fits (put s f i x)
  put_fits fit table row small =
      record {
        fits = λ g j h. put_cases (λ (y : ℕ). y < 256 ^ width_of g) g j (λ e k. rw e small) (λ n. fit.fits g j h);
        blank = λ g j h. put_cases (λ (y : ℕ). y ≡ 0) g j (λ e k. absurd (let l : rows_of f ≤ i = rw (e, k) at h in omega arith)) (λ n. fit.blank g j h);
      }
