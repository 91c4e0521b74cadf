-- What each return of the tests of an exposure shows.
-- Assumes nothing.
use mathlib.Core.Path.{◌≡◌, sym, ◌∙◌}
use mathlib.Core.Bool.{Bool, false, and-false, or-false}
use Prim.Native.Nat.{ℕ}
use lib.Dec.{eqb}
use borrow.Author.Tests.{eq-eqb, ne_eqb}
use Rattle.laws.specs.Search.{all}
use Rattle.book.specs.Layout.{numbers, request_kinds, givers, takers, baskets_or_exposures, closings, partners, in_use, exposure_amounts}
use Rattle.book.specs.State.{State}
use Rattle.rules.specs.DayChange.{belongs, is_idle}
use Rattle.rules.specs.Requests.{has_key}
use Rattle.day_exposures.specs.Parts.{is_not_of}

-- a row that belongs to an exposure
module _ (s : State) (e i : ℕ) {n : ℕ} (nq : n ≡ s numbers i) where
  pub no_row : n ≡ 0 → false ≡ belongs s e i
  no_row z = rw (← nq, z)

  module _ (used : n ≡ 0 → ⊥) {k : ℕ} (kq : k ≡ s request_kinds i) where
    pub by_name : {o : ℕ} → k ≡ 7 → o ≡ s baskets_or_exposures i → eqb o e ≡ belongs s e i
    by_name z oq = rw (← nq, ne_eqb n 0 used, ← kq, z, ← oq, or-false)

    pub no_kind : (k ≡ 7 → ⊥) → (k ≡ 6 → ⊥) → false ≡ belongs s e i
    no_kind a b = rw (← kq, ne_eqb k 7 a, ne_eqb k 6 b, and-false)

    module _ (fop : k ≡ 6) {p : ℕ} (pq : p ≡ s partners i) where
      pub no_pair : p ≡ 0 → false ≡ belongs s e i
      no_pair z = rw (← kq, fop, ← pq, z, and-false)

      pub by_pair : {g t o c : ℕ} {b : Bool} → (p ≡ 0 → ⊥) → g ≡ s givers i → t ≡ s takers i → o ≡ s baskets_or_exposures i → c ≡ s closings i → b ≡ has_key s g t o c e → b ≡ belongs s e i
      by_pair m gq tq oq cq bq = rw (← nq, ne_eqb n 0 used, ← kq, fop, ← pq, ne_eqb p 0 m, ← gq, ← tq, ← oq, ← cq) bq

-- an exposure that is idle
module _ (s : State) (e : ℕ) {u : ℕ} (uq : u ≡ s in_use e) where
  pub idle_unused : (u ≡ 1 → ⊥) → false ≡ is_idle s e
  idle_unused n = rw (← uq, ne_eqb u 1 n)

  module _ (used : u ≡ 1) {a : ℕ} (aq : a ≡ s exposure_amounts e) where
    pub idle_amount : (a ≡ 0 → ⊥) → false ≡ is_idle s e
    idle_amount n = rw (← aq, ne_eqb a 0 n, and-false)

    pub by_rows : {b : Bool} → a ≡ 0 → b ≡ all (is_not_of s e) 256 0 → b ≡ is_idle s e
    by_rows {b} z bq = rw (← bq, eq-eqb (s in_use e) 1 (sym uq ∙ used), sym aq ∙ z)
