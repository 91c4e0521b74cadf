-- The rows that the rules of kinds 6 to 8 look for, and what a search for them finds.
-- Assumes nothing.
use mathlib.Core.Path.{◌≡◌, sym}
use mathlib.Core.Bool.{Bool, true, false, ◌&&◌, ◌||◌}
use mathlib.Core.List.{List, [], ◌∷◌}
use Prim.Native.Nat.{ℕ, ◌<◌}
use native.Mathlib.Omega.{arith}
use lib.Dec.{eqb}
use borrow.Author.Tests.{eqb-true, eq-eqb, ne_eqb}
use Rattle.laws.specs.Search.{count}
use Rattle.laws.proofs.Cases.{clash, and_left}
use Rattle.book.specs.Layout.{numbers, in_use, exposure_givers, exposure_takers, exposure_baskets, exposure_closings}
use Rattle.book.specs.State.{State, put}
use Rattle.book.proofs.Images.{put_same, put_other}
use Rattle.rules.specs.Requests.{is_used, is_whole, is_live, is_owner, has_key, exposure_with, free_exposure, free_row}
use Rattle.rules.specs.Requesting.{is_equal, earliest_equal, is_own_request, own_request}
use Rattle.facts.proofs.Truth.{split}
use Rattle.laws.proofs.Ranges.{least_le}
use Rattle.facts.proofs.Searches.{least_holds, least_first, count_finds, count_but_one, found_by}

-- a request row that is not used
pub record Free (s : State) (i : ℕ) : Type 0 where
  pub below : i < 256
  pub unused : s numbers i ≡ 0

-- an exposure in use with a key
pub record Key (s : State) (g t b c e : ℕ) : Type 0 where
  pub used : s in_use e ≡ 1
  pub giver : s exposure_givers e ≡ g
  pub taker : s exposure_takers e ≡ t
  pub basket : s exposure_baskets e ≡ b
  pub closing : s exposure_closings e ≡ c

module _ (s : State) where
  -- the rows that are not used
  abbrev unused : ℕ → Bool
  unused i = eqb (s numbers i) 0

  pub free_row_lem : 0 < count unused 256 0 → Free s (free_row s)
  free_row_lem h =
      let l = count_finds unused 256 0 h in
      record { below = omega arith; unused = eqb-true (s numbers (free_row s)) 0 (least_holds unused 256 0 l) }

  -- the next one, once the first has a number
  pub second_row : (n : ℕ) → 1 < count unused 256 0 → 0 < n
      → Free s (free_row (put s numbers (free_row s) n)) × (free_row s ≡ free_row (put s numbers (free_row s) n) → ⊥)
  second_row n h m =
      let i = free_row s in
      let t = put s numbers i n in
      let left : ℕ → Bool = λ j. eqb (t numbers j) 0 in
      let gone : left i ≡ false = rw (put_same s numbers i n) (ne_eqb n 0 (λ z. omega arith)) in
      let others : (j : ℕ) → (j ≡ i → ⊥) → unused j ≡ left j = λ j d. rw (put_other s numbers i n j d) in
      let fewer = count_but_one unused left i others 256 0 in
      let l = count_finds left 256 0 (omega arith) in
      let j = free_row t in
      let passes : left j ≡ true = least_holds left 256 0 l in
      let apart : j ≡ i → ⊥ = λ e. clash passes (rw e gone) in
      (record { below = omega arith; unused = eqb-true (s numbers j) 0 (rw (put_other s numbers i n j apart) at passes) }, λ e. apart (sym e))

  -- an exposure with a key is found, and only such a one
  module _ (giver taker basket closing : ℕ) where
    pub has_key_lem : (e : ℕ) → s in_use e ≡ 1 → s exposure_givers e ≡ giver → s exposure_takers e ≡ taker → s exposure_baskets e ≡ basket → s exposure_closings e ≡ closing
        → has_key s giver taker basket closing e ≡ true
    has_key_lem e u g t b c =
        rw (eq-eqb (s in_use e) 1 u, eq-eqb (s exposure_givers e) giver g, eq-eqb (s exposure_takers e) taker t, eq-eqb (s exposure_baskets e) basket b)
        (eq-eqb (s exposure_closings e) closing c)

    pub key_facts : (e : ℕ) → has_key s giver taker basket closing e ≡ true → Key s giver taker basket closing e
    key_facts e h =
        let k = split (eqb (s in_use e) 1 ∷ eqb (s exposure_givers e) giver ∷ eqb (s exposure_takers e) taker ∷ eqb (s exposure_baskets e) basket ∷ eqb (s exposure_closings e) closing ∷ []) h in
        record {
          used = eqb-true (s in_use e) 1 k.0;
          giver = eqb-true (s exposure_givers e) giver k.1.0;
          taker = eqb-true (s exposure_takers e) taker k.1.1.0;
          basket = eqb-true (s exposure_baskets e) basket k.1.1.1.0;
          closing = eqb-true (s exposure_closings e) closing k.1.1.1.1;
        }

    pub exposure_passes : exposure_with s giver taker basket closing < 64 → has_key s giver taker basket closing (exposure_with s giver taker basket closing) ≡ true
    exposure_passes h = least_holds (has_key s giver taker basket closing) 64 0 (omega arith)

    pub exposure_found : (e : ℕ) → e < 64 → has_key s giver taker basket closing e ≡ true → exposure_with s giver taker basket closing < 64
    exposure_found e l h = omega (arith, least_first (has_key s giver taker basket closing) 64 0 e (omega arith) (omega arith) h)

    -- a mark of 64 says that none has the key
    pub exposure_none : exposure_with s giver taker basket closing ≡ 64 → (e : ℕ) → e < 64 → has_key s giver taker basket closing e ≡ true → ⊥
    exposure_none z e l h = omega (arith, exposure_found e l h)

  -- the free exposure row, where there is one
  pub free_exposure_lem : (free_exposure s ≡ 64 → ⊥) → (free_exposure s < 64) × (s in_use (free_exposure s) ≡ 0)
  free_exposure_lem h =
      let t : ℕ → Bool = λ e. eqb (s in_use e) 0 in
      let l : free_exposure s < 64 = omega (arith, least_le t 64 0) in
      (l, eqb-true (s in_use (free_exposure s)) 0 (least_holds t 64 0 (omega arith)))

  -- the equal request that waits
  pub earliest_equal_lem : (k : ℕ) (r : List ℕ) → earliest_equal s k r < 256 → is_equal s k r (earliest_equal s k r) ≡ true
  unfolding earliest_equal
  earliest_equal_lem k r h = (found_by (is_equal s k r) (s numbers) 256 256 (λ e. omega arith)).passes

  -- the owner's request is a used row
  pub own_used : (p n : ℕ) → (own_request s p n ≡ 256 → ⊥) → (own_request s p n < 256) × (is_used s (own_request s p n) ≡ true)
  own_used p n h =
      let i = own_request s p n in
      let t = is_own_request s p n in
      let l : i < 256 = omega (arith, least_le t 256 0) in
      (l, and_left (is_used s i) (eqb (s numbers i) n && ((is_live s i || is_whole s i) && is_owner s i p)) (least_holds t 256 0 (omega arith)))
