-- What each return of the tests of a request row and of an exposure shows.
-- Assumes nothing.
use mathlib.Core.Path.{◌≡◌, sym, ◌∙◌}
use mathlib.Core.Bool.{Bool, true, false, not, and-false, and-true}
use Prim.Native.Nat.{ℕ, ◌≤◌, ◌<◌}
use lib.Dec.{eqb, leb}
use borrow.Author.Tests.{eq-eqb, ne_eqb, le-leb, lt-leb, not-true, not-false}
use Rattle.book.specs.Layout.{today, numbers, request_kinds, baskets_or_exposures, amounts, settlements, closings, settled_amounts, partners, ends, in_use, exposure_closings}
use Rattle.book.specs.State.{State}
use Rattle.rules.specs.DayChange.{is_reached, is_done, is_closed_fop, is_exposure_closed, is_closed_return}

-- a closing date
module _ (s : State) (closing : ℕ) where
  pub never_reached : closing ≡ 0 → false ≡ is_reached s closing
  never_reached z = rw (eq-eqb closing 0 z)

  pub by_day : {t : ℕ} → (closing ≡ 0 → ⊥) → t ≡ s today 0 → leb closing t ≡ is_reached s closing
  by_day n tq = rw (ne_eqb closing 0 n, ← tq)

-- an exposure whose closing date is reached
module _ (s : State) (e : ℕ) {u : ℕ} (uq : u ≡ s in_use e) where
  pub exposure_unused : (u ≡ 1 → ⊥) → false ≡ is_exposure_closed s e
  exposure_unused n = rw (← uq, ne_eqb u 1 n)

  pub by_reached : {c : ℕ} {b : Bool} → u ≡ 1 → c ≡ s exposure_closings e → b ≡ is_reached s c → b ≡ is_exposure_closed s e
  by_reached z cq bq = rw (← uq, z, ← cq) bq

-- a row that is done
module _ (s : State) (i : ℕ) {n : ℕ} (nq : n ≡ s numbers i) where
  pub done_unused : n ≡ 0 → false ≡ is_done s i
  done_unused z = rw (← nq, z)

  module _ (used : n ≡ 0 → ⊥) {a d : ℕ} (aq : a ≡ s amounts i) (dq : d ≡ s settled_amounts i) where
    pub done_whole : a ≤ d → true ≡ is_done s i
    done_whole h = rw (← nq, ne_eqb n 0 used, ← aq, ← dq, le-leb a d h)

    module _ (part : d < a) {x : ℕ} (xq : x ≡ s ends i) where
      pub done_ended : x ≡ 1 → true ≡ is_done s i
      done_ended e = rw (← nq, ne_eqb n 0 used, ← aq, ← dq, lt-leb a d part, ← xq, eq-eqb x 1 e)

      module _ (going : x ≡ 1 → ⊥) {p : ℕ} (pq : p ≡ s partners i) where
        pub done_not : (p ≡ 0 → ⊥) → false ≡ is_done s i
        done_not m = rw (← nq, ne_eqb n 0 used, ← aq, ← dq, lt-leb a d part, ← xq, ne_eqb x 1 going, ← pq, ne_eqb p 0 m)

        pub by_settlement : {y t : ℕ} → p ≡ 0 → y ≡ s settlements i → t ≡ s today 0 → leb y t ≡ is_done s i
        by_settlement z yq tq = rw (← nq, ne_eqb n 0 used, ← aq, ← dq, lt-leb a d part, ← xq, ne_eqb x 1 going, ← pq, eq-eqb p 0 z, ← yq, ← tq)

-- one of a FOP pair whose closing date is reached
module _ (s : State) (i : ℕ) {c : ℕ} {b : Bool} (cq : c ≡ s closings i) (bq : b ≡ is_reached s c) where
  pub fop_open : not b ≡ true → false ≡ is_closed_fop s i
  fop_open e = rw (← cq, sym bq ∙ not-true b e, and-false, and-false, and-false)

  module _ (reached : not b ≡ false) {k : ℕ} (kq : k ≡ s request_kinds i) where
    pub no_fop : (k ≡ 6 → ⊥) → false ≡ is_closed_fop s i
    no_fop m = rw (← kq, ne_eqb k 6 m, and-false)

    module _ (e : k ≡ 6) {p : ℕ} (pq : p ≡ s partners i) where
      pub no_pair : p ≡ 0 → false ≡ is_closed_fop s i
      no_pair z = rw (← kq, e, ← pq, z, and-false)

      pub by_number : {n : ℕ} → (p ≡ 0 → ⊥) → n ≡ s numbers i → not (eqb n 0) ≡ is_closed_fop s i
      by_number m nq = rw (← nq, ← kq, e, ← pq, ne_eqb p 0 m, ← cq, sym bq ∙ not-false b reached, and-true)

-- a return whose exposure is closed
module _ (s : State) (i : ℕ) {k : ℕ} (kq : k ≡ s request_kinds i) where
  pub no_return : (k ≡ 7 → ⊥) → false ≡ is_closed_return s i
  no_return m = rw (← kq, ne_eqb k 7 m, and-false)

  module _ (e : k ≡ 7) {n : ℕ} (nq : n ≡ s numbers i) where
    pub return_unused : n ≡ 0 → false ≡ is_closed_return s i
    return_unused z = rw (← nq, z)

    pub by_exposure : {o : ℕ} {b : Bool} → (n ≡ 0 → ⊥) → o ≡ s baskets_or_exposures i → b ≡ is_exposure_closed s o → b ≡ is_closed_return s i
    by_exposure used oq bq = rw (← nq, ne_eqb n 0 used, ← kq, e, ← oq) bq
