-- The rows that are due: all that pass the test and no other, in their order; and the exposure that a FOP belongs to.
-- Assumes nothing.
use mathlib.Core.Path.{◌≡◌}
use mathlib.Core.Bool.{Bool, true, not, ◌&&◌}
use mathlib.Core.List.{[], ◌∷◌}
use Prim.Native.Nat.{ℕ, ◌≤◌, ◌<◌}
use native.Mathlib.Omega.{arith}
use lib.Dec.{eqb, leb, ltb}
use lib.ListN.{length}
use borrow.Author.Tests.{eqb-true, eq-eqb, leb-false, ltb-true, not-true}
use Rattle.laws.specs.Lists.{those}
use Rattle.laws.proofs.Cases.{and_left, and_right}
use Rattle.laws.proofs.Lists.{In, Sorted, Before, sorted_by, in_those, those_in, those_rise, those_few, in_order_lem, order_in, order_length, order_sorted}
use Rattle.book.specs.Layout.{today, numbers, request_kinds, givers, takers, baskets_or_exposures, amounts, settlements, settled_amounts, closings, ends, in_use, exposure_givers, exposure_takers, exposure_baskets, exposure_closings}
use Rattle.book.specs.State.{State}
use Rattle.facts.specs.Good.{Good}
use Rattle.facts.proofs.Searches.{least_holds}
use Rattle.facts.proofs.Truth.{split}
use Rattle.rules.specs.Requests.{is_used, is_whole, is_live, is_paired, partner_of, rest_of, has_key, exposure_of_fop}
use Rattle.rules.specs.Settlement.{is_due, settles_before, due_rows}
use Rattle.settlement_laws.specs.Ways.{PairOf, Due}
use Rattle.settlement_laws.proofs.Ordering.{Numbered, strict, through}

-- what the test of a due row says
module _ {s : State} {kind i : ℕ} (d : Due s kind i) where
  tests : (is_live s i ≡ true) × (is_paired s i ≡ true) × (s numbers (partner_of s i) < s numbers i)
  unfolding is_due
  tests =
      let t = split (is_live s i ∷ is_paired s i ∷ ltb (s numbers (partner_of s i)) (s numbers i) ∷ leb (s settlements i) (s today 0) ∷ []) d.due in
      (t.0, t.1.0, ltb-true (s numbers (partner_of s i)) (s numbers i) t.1.1.0)

  pub due_pair : PairOf s kind i
  due_pair = record { below = d.below; used = and_left (is_used s i) _ tests.0; paired = tests.1; kind_is = d.kind_is }

  pub due_later : s numbers (partner_of s i) < s numbers i
  due_later = tests.2

  -- "live": something is left to settle
  pub due_rest : rest_of s i ≡ 0 → ⊥
  due_rest z =
      let l = split (is_used s i ∷ eqb (s ends i) 0 ∷ not (is_whole s i) ∷ []) tests.0 in
      omega (arith, leb-false (s amounts i) (s settled_amounts i) (not-true (is_whole s i) l.1.1))

-- the due rows of a kind
module _ (s : State) (kind : ℕ) where
  passes : ℕ → Bool
  passes i = eqb (s request_kinds i) kind && is_due s i

  pub due_in : (i : ℕ) → In i (due_rows s kind) → Due s kind i
  unfolding due_rows passes
  due_in i h =
      let t = those_in passes 256 i (order_in (settles_before s) i (those passes 256) h) in
      record { below = t.0; kind_is = eqb-true (s request_kinds i) kind (and_left _ (is_due s i) t.1); due = and_right (eqb (s request_kinds i) kind) _ t.1 }

  pub in_due : (i : ℕ) → Due s kind i → In i (due_rows s kind)
  unfolding due_rows passes
  in_due i d = in_order_lem (settles_before s) i (those passes 256) (in_those passes 256 i d.below (rw (eq-eqb (s request_kinds i) kind d.kind_is) d.due))

  pub due_few : length (due_rows s kind) ≤ 256
  unfolding due_rows passes
  due_few = rw (order_length (settles_before s) (those passes 256)) (those_few passes 256)

  pub due_sorted : Good s → Sorted (Before (settles_before s)) (due_rows s kind)
  unfolding due_rows passes
  due_sorted g =
      order_sorted (settles_before s) (Numbered s) (strict s g) (through s) (those passes 256)
      (λ i h. let p = due_pair (due_in i (in_order_lem (settles_before s) i (those passes 256) h)) in (p.below, p.used))
      (sorted_by (those passes 256) (λ i j a b l e. omega arith) (those_rise passes 256))

-- the exposure of a FOP, where there is one, is used
pub exposure_used : (s : State) (i : ℕ) → exposure_of_fop s i < 64 → s in_use (exposure_of_fop s i) ≡ 1
exposure_used s i h =
    let e = exposure_of_fop s i in
    let key = has_key s (s givers i) (s takers i) (s baskets_or_exposures i) (s closings i) in
    eqb-true (s in_use e) 1
    (and_left (eqb (s in_use e) 1)
    (eqb (s exposure_givers e) (s givers i) && (eqb (s exposure_takers e) (s takers i) && (eqb (s exposure_baskets e) (s baskets_or_exposures i) && eqb (s exposure_closings e) (s closings i))))
    (least_holds key 64 0 h))
