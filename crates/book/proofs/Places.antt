-- The layout: tables follow each other, rows follow each other, and all end where the book ends.
-- Assumes nothing.
use mathlib.Core.Path.{◌≡◌, refl, sym, ap, ◌∙◌}
use mathlib.Core.Bool.{Bool, ◌||◌}
use Prim.Native.Nat.{ℕ, suc, ◌+◌, ◌*◌, ◌≤◌, ◌<◌}
use native.Mathlib.Nat.{mul-suc, mul_comm, mul-le-mul_left}
use native.Mathlib.Decide.{ℕ_discrete, dec_lt}
use borrow.Author.Tests.{ne_eqb}
use native.Mathlib.Omega.{arith}
use lib.Dec.{T, eqb, leb, leb→le}
use lib.ListN.{get_or-eq_default}
use Rattle.laws.specs.Sum.{sum}
use Rattle.laws.proofs.Sum.{sum_mono}
use Rattle.laws.proofs.Table.{each_at}
use Rattle.book.specs.Layout.{Table, layout, rows_of, width_of, size_of, base_of, book_length, table_count}

-- rows of one width follow each other
pub rows_apart : (w : ℕ) {i j : ℕ} → i < j → w * i + w ≤ w * j
rows_apart w {i} {j} h = rw mul-suc at (mul-le-mul_left w h)

-- a table begins after those before it
pub tables_apart : (f g : ℕ) → f < g → base_of f + size_of f ≤ base_of g
unfolding base_of sum
tables_apart f g h = sum_mono size_of (suc f) g h

pub whole : base_of table_count ≡ book_length
unfolding base_of sum
whole = refl

pub tables_inside : (f : ℕ) → f < table_count → base_of f + size_of f ≤ book_length
tables_inside f h = let l = tables_apart f table_count h in rw whole at l

-- a row stands within its table
pub row_inside : (f i : ℕ) → i < rows_of f → width_of f * i + width_of f ≤ size_of f
row_inside f i h = let l : width_of f * i + width_of f ≤ width_of f * rows_of f = rows_apart (width_of f) h in rw (mul_comm (width_of f) (rows_of f)) at l

-- the layout has no more tables than are counted
pub row_of : (f i : ℕ) → i < rows_of f → f < table_count
row_of f i h = elim (dec_lt f table_count) [ yes l ↦ l | no l ↦ absurd (let e : rows_of f ≡ 0 = ap (λ (t : Table). t.rows) (get_or-eq_default layout _ {n = f} (omega arith)) in omega arith) ]

-- each table that has rows has four or eight bytes a row
wide : Table → Bool
wide t = eqb t.rows 0 || (eqb t.bytes 4 || eqb t.bytes 8)

tests : (r w : ℕ) → T (eqb r 0 || (eqb w 4 || eqb w 8)) → 0 < r → (w ≡ 4 → ⊥) → w ≡ 8
tests r w t h n =
    elim (ℕ_discrete w 8) [ yes e ↦ e | no m ↦ absurd (rw (ne_eqb r 0 (λ e. omega arith), ne_eqb w 4 n, ne_eqb w 8 m) at t) ]

pub width_eight : (f i : ℕ) → i < rows_of f → (width_of f ≡ 4 → ⊥) → width_of f ≡ 8
unfolding wide
width_eight f i h n = tests (rows_of f) (width_of f) (each_at wide layout _ tt tt f) (omega arith) n

-- no table has more rows than the positions
few : Table → Bool
few t = leb t.rows 4096

pub rows_few : (f : ℕ) → rows_of f ≤ 4096
unfolding few
rows_few f = leb→le (rows_of f) 4096 (each_at few layout _ tt tt f)

-- the width that the code's test finds
pub width_is : (f : ℕ) {w k : ℕ} → w ≡ width_of f → w ≡ k → k ≡ width_of f
width_is f e t = sym t ∙ e

pub width_else : (f i : ℕ) {w : ℕ} → i < rows_of f → w ≡ width_of f → (w ≡ 4 → ⊥) → 8 ≡ width_of f
width_else f i h e n = sym (width_eight f i h (λ m. n (e ∙ m)))

-- where a row stands, in the code's numbers: the table's base and a width k
module _ (f i : ℕ) {at k : ℕ} (row : i < rows_of f) (base : at ≡ base_of f) (width : k ≡ width_of f) where
  pub cell_inside : at + k * i + k ≤ book_length
  cell_inside = rw (base, width) (omega (arith, row_inside f i row, tables_inside f (row_of f i row)))

-- where 64 rows of four bytes stand
pub rows_inside : (f start : ℕ) {at : ℕ} → f < table_count → width_of f ≡ 4 → start + 64 ≤ rows_of f → at ≡ base_of f → at + 4 * start + 256 ≤ book_length
rows_inside f start table width rows base =
    let e : 4 * start + 256 ≡ width_of f * (start + 64) = rw width (omega arith) in
    let l : width_of f * (start + 64) ≤ width_of f * rows_of f = mul-le-mul_left (width_of f) rows in
    omega (arith, rw (mul_comm (width_of f) (rows_of f)) at l, tables_inside f table)
