-- What an accepted FOP or return record is: its ranges and the rules that do not apply, as facts.
-- Assumes nothing.
use mathlib.Core.Path.{◌≡◌, refl}
use mathlib.Core.Bool.{Bool, true, false, not, ◌&&◌, ◌||◌}
use mathlib.Core.List.{List, [], ◌∷◌}
use mathlib.Core.Logic.{⊎_elim}
use Prim.Native.Nat.{ℕ, ◌+◌, ◌≤◌}
use native.Mathlib.Omega.{arith}
use lib.Dec.{eqb, leb, ltb}
use borrow.Author.Tests.{eqb-true, eqb-false, ltb-false, not-false}
use Rattle.laws.specs.Search.{count}
use Rattle.laws.proofs.Cases.{either, or_left, or_right}
use Rattle.calendar.specs.Target.{open_day}
use Rattle.book.specs.Layout.{tolerance, next_number, numbers, in_use, exposure_givers, exposure_takers}
use Rattle.book.specs.State.{State}
use Rattle.record_kinds.specs.Kinds.{kinds}
use Rattle.records.specs.Writing.{are_legal}
use Rattle.rules.specs.Codes.{fop_rules, return_rules}
use Rattle.rules.specs.Outcome.{lowest}
use Rattle.rules.specs.Requests.{is_exposure_of, free_exposure, open_or_none}
use Rattle.rules.specs.Requesting.{rows_needed, needs_exposure}
use Rattle.rules.specs.Fields.{giver_in, taker_in, basket_or_exposure_in, amount_in, settlement_in, closing_in}
use Rattle.rules.specs.Stock.{participant_set_up, basket_set_up}
use Rattle.facts.proofs.Ranges.{field_in_lem}
use Rattle.facts.proofs.Rows.{Parties}
use Rattle.facts.proofs.Rules.{none_applies}
use Rattle.facts.proofs.Truth.{split}
use Rattle.request_laws.proofs.Entries.{FopIn, ReturnIn, fop_in, return_in, RequestIn}
use Rattle.request_laws.proofs.EntryCases.{Enough}

module _ (s : State) (r : List ℕ) where
  abbrev free : ℕ
  free = count (λ i. eqb (s numbers i) 0) 256 0

  enough_of : (ltb free (rows_needed s r) || ltb 1000000000 (s next_number 0 + rows_needed s r)) ≡ false → Enough s r
  enough_of h = record {
    rows = ltb-false free (rows_needed s r) (or_left (ltb free (rows_needed s r)) (ltb 1000000000 (s next_number 0 + rows_needed s r)) h);
    numbers = ltb-false 1000000000 (s next_number 0 + rows_needed s r) (or_right (ltb free (rows_needed s r)) (ltb 1000000000 (s next_number 0 + rows_needed s r)) h);
  }

  parties_of : giver_in r ≤ 31 → taker_in r ≤ 31 → not (participant_set_up s (giver_in r)) ≡ false → not (participant_set_up s (taker_in r)) ≡ false
      → eqb (giver_in r) (taker_in r) ≡ false → Parties s (giver_in r) (taker_in r)
  parties_of giver taker g t d = record {
    giver_below = omega arith;
    taker_below = omega arith;
    giver_known = not-false (participant_set_up s (giver_in r)) g;
    taker_known = not-false (participant_set_up s (taker_in r)) t;
    differ = eqb-false (giver_in r) (taker_in r) d;
  }

  -- "a closing may be 0", else it is open and after the settlement
  closing_of : (d : ℕ) (late : Bool) → (not (eqb d 0) && (not (open_day d) || late)) ≡ false → open_or_none d ≡ true
  closing_of d late h =
      ⊎_elim
      (λ z. rw z)
      (λ z. rw z (not-false (open_day d) (or_left (not (open_day d)) late (rw z at h))))
      (either (eqb d 0))

  -- an accepted FOP, and an accepted return
  module _ (legal : are_legal 6 r ≡ true) (accepted : lowest (fop_rules s r) ≡ 0) where
    pub fop_names : FopIn s r
    unfolding fop_rules kinds
    fop_names =
        let none = none_applies (fop_rules s r) refl accepted in
        record {
          basket_below = omega (arith, (field_in_lem 6 3 r legal (omega arith)).1);
          basket_known = not-false (basket_set_up s (basket_or_exposure_in r)) none.1.1.1.0;
          amount_low = ltb-false (amount_in r) (s tolerance 0) none.0;
          closing = closing_of (closing_in 6 r) (leb (closing_in 6 r) (settlement_in r)) none.1.1.1.1.1.1.0;
        }

    pub fop_request : RequestIn s 6 r
    unfolding fop_rules kinds
    fop_request =
        let none = none_applies (fop_rules s r) refl accepted in
        record {
          side = (field_in_lem 6 0 r legal (omega arith)).1;
          parties = parties_of (field_in_lem 6 1 r legal (omega arith)).1 (field_in_lem 6 2 r legal (omega arith)).1 none.1.0 none.1.1.0 none.1.1.1.1.1.1.1.0;
          kind = fop_in refl fop_names;
          amount_low = (field_in_lem 6 4 r legal (omega arith)).0;
          amount_high = (field_in_lem 6 4 r legal (omega arith)).1;
          settlement = not-false (open_day (settlement_in r)) none.1.1.1.1.0;
          settlement_small = omega (arith, (field_in_lem 6 5 r legal (omega arith)).1);
          closing_small = omega (arith, (field_in_lem 6 6 r legal (omega arith)).1);
          reference_small = omega (arith, (field_in_lem 6 7 r legal (omega arith)).1);
        }

    pub fop_enough : Enough s r
    unfolding fop_rules
    fop_enough = enough_of (none_applies (fop_rules s r) refl accepted).1.1.1.1.1.1.1.1.1.0

    -- where it needs an exposure row, one is free
    pub fop_exposure : needs_exposure s 6 r ≡ true → free_exposure s ≡ 64 → ⊥
    unfolding fop_rules
    fop_exposure needs = eqb-false (free_exposure s) 64 (rw needs at (none_applies (fop_rules s r) refl accepted).1.1.1.1.1.1.1.1.1.1.0)

  module _ (legal : are_legal 7 r ≡ true) (accepted : lowest (return_rules s r) ≡ 0) where
    return_names_lem : ReturnIn s r
    unfolding return_rules kinds
    return_names_lem =
        let o = basket_or_exposure_in r in
        let none = none_applies (return_rules s r) refl accepted in
        let named = split (eqb (s in_use o) 1 ∷ eqb (s exposure_givers o) (giver_in r) ∷ eqb (s exposure_takers o) (taker_in r) ∷ []) (not-false (is_exposure_of s (giver_in r) (taker_in r) o) none.1.1.1.1.1.1.0) in
        record {
          exposure_below = omega (arith, (field_in_lem 7 3 r legal (omega arith)).1);
          exposure_used = eqb-true (s in_use o) 1 named.0;
          giver = eqb-true (s exposure_givers o) (giver_in r) named.1.0;
          taker = eqb-true (s exposure_takers o) (taker_in r) named.1.1;
        }

    pub return_request : RequestIn s 7 r
    unfolding return_rules kinds
    return_request =
        let none = none_applies (return_rules s r) refl accepted in
        record {
          side = (field_in_lem 7 0 r legal (omega arith)).1;
          parties = parties_of (field_in_lem 7 1 r legal (omega arith)).1 (field_in_lem 7 2 r legal (omega arith)).1 none.0 none.1.0 none.1.1.1.1.0;
          kind = return_in refl return_names_lem;
          amount_low = (field_in_lem 7 4 r legal (omega arith)).0;
          amount_high = (field_in_lem 7 4 r legal (omega arith)).1;
          settlement = not-false (open_day (settlement_in r)) none.1.1.0;
          settlement_small = omega (arith, (field_in_lem 7 5 r legal (omega arith)).1);
          closing_small = omega arith;
          reference_small = omega (arith, (field_in_lem 7 6 r legal (omega arith)).1);
        }

    pub return_enough : Enough s r
    unfolding return_rules
    return_enough = enough_of (none_applies (return_rules s r) refl accepted).1.1.1.1.1.1.1.0
