-- The securities' four columns stand one after the other, in words.
-- Assumes nothing.
use mathlib.Core.Path.{◌≡◌, refl, ap, ◌∙◌}
use mathlib.Core.List.{List}
use Prim.Native.Nat.{ℕ, zero, suc, ◌+◌, ◌*◌, ◌/◌, ◌%◌, ◌<◌}
use native.Mathlib.Nat.{div-add-mod'}
use native.Mathlib.Omega.{arith}
use lib.ListN.{get_or}
use Rattle.laws.specs.Numbers.{number_at}
use Rattle.laws.specs.Sum.{sum}
use Rattle.book.specs.Layout.{rows_of, width_of, base_of, security_tables}
use Rattle.book.specs.State.{state}
use Rattle.book.proofs.Cells.{cell_read}

-- a column: 64 rows of four bytes
record Column (q : ℕ) : Type 0 where
  rows : rows_of (get_or security_tables q 0) ≡ 64
  width : 4 ≡ width_of (get_or security_tables q 0)
  base : 12 + 256 * q ≡ base_of (get_or security_tables q 0)

column : (q : ℕ) → q < 4 → Column q
unfolding base_of sum
column zero h = record { rows = refl; width = refl; base = refl }
column (suc zero) h = record { rows = refl; width = refl; base = refl }
column (suc (suc zero)) h = record { rows = refl; width = refl; base = refl }
column (suc (suc (suc zero))) h = record { rows = refl; width = refl; base = refl }
column (suc (suc (suc (suc q)))) h = absurd (omega arith)

pub column_read : (b : List ℕ) (k : ℕ) {x : ℕ} → k < 256 → x ≡ number_at b (12 + 4 * k) 4 → x ≡ state b (get_or security_tables (k / 64) 0) (k % 64)
column_read b k h e =
    let c = column (k / 64) (omega arith) in
    let place : 12 + 4 * k ≡ 12 + 256 * (k / 64) + 4 * (k % 64) = omega (arith, div-add-mod' k 64) in
    cell_read b (get_or security_tables (k / 64) 0) (k % 64) (omega (arith, c.rows)) c.base c.width (e ∙ ap (λ (p : ℕ). number_at b p 4) place)
