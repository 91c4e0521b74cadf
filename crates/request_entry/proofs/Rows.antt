-- The rows that are left where a request is entered.
-- Assumes nothing.
use mathlib.Core.Path.{◌≡◌, refl}
use mathlib.Core.Bool.{Bool, cond}
use mathlib.Core.List.{List}
use Prim.Native.Nat.{ℕ, ◌+◌}
use Rattle.book.specs.Layout.{next_number, numbers}
use Rattle.book.specs.State.{State, put}
use Rattle.rules.specs.Requests.{free_row, allow_partial}
use Rattle.rules.specs.Requesting.{with_row, with_taker, with_equal, waiting}
use Rattle.rules.specs.Fields.{side_in, giver_in, taker_in}
use Rattle.request_rows.specs.Rows.{with_parties, with_terms, with_partner, with_marks, filled_row, RowTaken}

-- a row as it is written: the number first, then the rest
row_made : (s : State) (k : ℕ) (r : List ℕ) (i n side partner partial : ℕ) → filled_row (put s numbers i n) k r i side partner partial ≡ with_row s k r i n side partner partial
unfolding filled_row with_parties with_terms with_marks with_row
row_made s k r i n side partner partial = refl

module _ (s : State) (k : ℕ) (r : List ℕ) {n : ℕ} (nq : n ≡ s next_number 0) {i : ℕ} {t : State} (taken : RowTaken s n i t) where
  pub waiting_written : {u w : State} → u ≡ filled_row t k r i (side_in r) 0 0 → w ≡ put u next_number 0 (n + 1) → w ≡ waiting s k r
  unfolding waiting
  waiting_written uq wq = rw (wq, uq, taken.state_is, taken.free_row_is, row_made, nq)

  module _ {p : Bool} (pq : p ≡ allow_partial s (giver_in r) (taker_in r)) where
    pub equal_written : (j : ℕ) {u v w : State} → u ≡ filled_row t k r i (side_in r) (j + 1) (cond p 1 0) → v ≡ with_partner u j (i + 1) (cond p 1 0)
        → w ≡ put v next_number 0 (n + 1) → w ≡ with_equal s k r j
    unfolding with_equal
    equal_written j uq vq wq = rw (wq, vq, uq, taken.state_is, taken.free_row_is, row_made, nq, pq)

    pub taker_written : {j : ℕ} {u v w x : State} → j ≡ free_row t → u ≡ filled_row t k r i 0 (j + 1) (cond p 1 0)
        → v ≡ put u numbers j (n + 1) → w ≡ filled_row v k r j 1 (i + 1) (cond p 1 0) → x ≡ put w next_number 0 (n + 2) → x ≡ with_taker s k r
    unfolding with_taker
    taker_written jq uq vq wq xq = rw (xq, wq, vq, row_made, uq, jq, taken.state_is, taken.free_row_is, row_made, nq, pq)
