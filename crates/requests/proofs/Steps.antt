-- What the steps of kinds 6 to 8 leave.
-- Assumes nothing.
use mathlib.Core.Path.{◌≡◌, refl, sym, ◌∙◌}
use mathlib.Core.Bool.{Bool, true, false, and-false, or-true}
use mathlib.Core.List.{List}
use Prim.Native.Nat.{ℕ, ◌+◌, ◌<◌}
use native.Mathlib.Omega.{arith}
use lib.Dec.{ltb}
use lib.ListN.{get_or}
use borrow.Author.Tests.{ne_eqb, lt-ltb, le-ltb}
use Rattle.std.specs.Prelude.{Option, Some, None}
use Rattle.laws.specs.Found.{found}
use Rattle.laws.proofs.Found.{found_some, found_nothing}
use Rattle.book.specs.Layout.{next_number, numbers, partners, ends}
use Rattle.book.specs.State.{State, put}
use Rattle.rules.specs.Requests.{free_exposure}
use Rattle.rules.specs.Requesting.{taker_follows, earliest_equal, pairs_now, needs_exposure, with_row, with_taker, with_equal, waiting, rows_entered, entered, own_request, cancelled}
use Rattle.totals.specs.Totals.{totals_of}
use Rattle.request_entry.specs.Entering.{RoomForTwo, lacks_exposure, ExposureRoom, with_exposure}
use Rattle.requests.specs.Steps.{Room, Entered, cancelled_pair}

-- a request that pairs: its rows leave the exposures as they are
module _ (s t : State) (k : ℕ) (r : List ℕ) (key : lacks_exposure t k r ≡ lacks_exposure s k r) (free : free_exposure t ≡ free_exposure s)
    (pairs : pairs_now s k r ≡ true) where
  needed : needs_exposure s k r ≡ lacks_exposure s k r
  needed = rw pairs

  exposure_room : Room s k r → ExposureRoom t k r
  exposure_room m = record { spare = λ l. rw free (m.exposure (needed ∙ sym key ∙ l)) }

  state_entered : rows_entered s k r ≡ t → with_exposure t k r ≡ (entered s k r).state
  unfolding entered
  state_entered e = rw (needed, e, key, free)

-- a request enters: with its taker request, with an equal one, or to wait
module _ (s : State) (k : ℕ) (r : List ℕ) {b : Bool} (bq : b ≡ taker_follows s r) where
  module _ (h : b ≡ true) where
    pub two_rows_room : Room s k r → RoomForTwo s
    two_rows_room m = m.two (sym bq ∙ h)

    module _ {t : State} (tq : t ≡ with_taker s k r) where
      taker_key : lacks_exposure t k r ≡ lacks_exposure s k r
      unfolding with_taker with_row
      taker_key = rw tq

      taker_free : free_exposure t ≡ free_exposure s
      unfolding with_taker with_row
      taker_free = rw tq

      taker_pairs : pairs_now s k r ≡ true
      taker_pairs = rw (sym bq ∙ h)

      taker_rows : rows_entered s k r ≡ t
      taker_rows = rw (sym bq ∙ h) (sym tq)

      pub taker_room : Room s k r → ExposureRoom t k r
      taker_room = exposure_room s t k r taker_key taker_free taker_pairs

      pub entered_with_taker : {n : ℕ} {u : State} → n ≡ s next_number 0 → u ≡ with_exposure t k r → Entered s k r (n + 1) u
      entered_with_taker nq uq = record { partner_is = rw (nq, sym bq ∙ h); state_is = uq ∙ state_entered s t k r taker_key taker_free taker_pairs taker_rows }

  module _ (alone : b ≡ false) {x : ℕ} (xq : x ≡ k) {o : Option ℕ} (searched : o ≡ found 256 (earliest_equal s x r)) where
    oq : o ≡ found 256 (earliest_equal s k r)
    oq = rw xq at searched

    module _ {j : ℕ} (is : o ≡ Some j) {t : State} (tq : t ≡ with_equal s k r j) where
      which : (j ≡ earliest_equal s k r) × (earliest_equal s k r < 256)
      which = found_some 256 (earliest_equal s k r) oq is

      some_equal : ltb (earliest_equal s k r) 256 ≡ true
      some_equal = lt-ltb (earliest_equal s k r) 256 which.1

      equal_key : lacks_exposure t k r ≡ lacks_exposure s k r
      unfolding with_equal with_row
      equal_key = rw tq

      equal_free : free_exposure t ≡ free_exposure s
      unfolding with_equal with_row
      equal_free = rw tq

      equal_pairs : pairs_now s k r ≡ true
      equal_pairs = rw (some_equal, or-true)

      equal_rows : rows_entered s k r ≡ t
      equal_rows = rw (sym bq ∙ alone, some_equal, ← which.0) (sym tq)

      pub equal_room : Room s k r → ExposureRoom t k r
      equal_room = exposure_room s t k r equal_key equal_free equal_pairs

      pub entered_with_equal : {x : ℕ} {u : State} → x ≡ s numbers j → u ≡ with_exposure t k r → Entered s k r x u
      entered_with_equal xq uq = record { partner_is = rw (xq, sym bq ∙ alone, some_equal, ← which.0); state_is = uq ∙ state_entered s t k r equal_key equal_free equal_pairs equal_rows }

    pub entered_waiting : {t : State} → o ≡ None → t ≡ waiting s k r → Entered s k r 0 t
    unfolding entered
    entered_waiting is tq =
        let none : ltb (earliest_equal s k r) 256 ≡ false = le-ltb (earliest_equal s k r) 256 (found_nothing 256 (earliest_equal s k r) oq is) in
        record { partner_is = rw (sym bq ∙ alone, none); state_is = rw (sym bq ∙ alone, none, and-false) tq }

-- its number and its partner's, which are answered
pub entered_totals : (s : State) (k : ℕ) (r : List ℕ) {n p : ℕ} {t : State} → n ≡ s next_number 0 → Entered s k r p t → record { a = n; b = p; m = 0 } ≡ totals_of (entered s k r)
unfolding entered
entered_totals s k r nq e = rw (nq, e.partner_is)

-- a cancel
pub cancelled_silent : (s : State) (r : List ℕ) → record { a = 0; b = 0; m = 0 } ≡ totals_of (cancelled s r)
unfolding cancelled
cancelled_silent s r = refl

module _ (s : State) (r : List ℕ) {o : Option ℕ} (oq : o ≡ found 256 (own_request s (get_or r 0 0) (get_or r 1 0))) {i : ℕ} (is : o ≡ Some i) where
  iq : i ≡ own_request s (get_or r 0 0) (get_or r 1 0)
  iq = (found_some 256 (own_request s (get_or r 0 0) (get_or r 1 0)) oq is).0

  pub cancelled_alone : {t : State} → s partners i ≡ 0 → t ≡ put s ends i 1 → t ≡ (cancelled s r).state
  unfolding cancelled
  cancelled_alone h tq = rw (← iq, h) tq

  pub cancelled_paired : (j : ℕ) {t : State} → s partners i ≡ j + 1 → t ≡ cancelled_pair s i → t ≡ (cancelled s r).state
  unfolding cancelled
  cancelled_paired j e tq = rw (← iq, ne_eqb (s partners i) 0 (λ z. omega (arith, e, z))) tq
