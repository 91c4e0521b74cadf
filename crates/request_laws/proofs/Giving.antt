-- An exposure row given out, free and with a key that no other has: it keeps all, and its sums begin at 0.
-- Assumes nothing.
use mathlib.Core.Path.{◌≡◌, refl, sym, ap, ◌∙◌}
use mathlib.Core.Bool.{Bool, true, false, ◌&&◌, cond}
use mathlib.Core.List.{List, [], ◌∷◌}
use mathlib.Core.Logic.{inl, ⊎_elim}
use Prim.Native.Nat.{ℕ, ◌+◌, ◌*◌, ◌≤◌, ◌<◌}
use native.Mathlib.Decide.{ℕ_discrete}
use native.Mathlib.Omega.{arith}
use lib.Dec.{eqb, leb}
use borrow.Author.Tests.{eqb-true, eq-eqb, ne_eqb, lt-leb, leb-true}
use Rattle.laws.specs.Search.{all}
use Rattle.laws.proofs.Cases.{either, and_right}
use Rattle.laws.proofs.Least.{all_at}
use Rattle.laws.proofs.Sum.{sum_same}
use Rattle.book.specs.Layout.{numbers, ends, in_use, exposure_givers, exposure_takers, exposure_baskets, exposure_closings, exposure_amounts, positions, key_tables}
use Rattle.book.specs.State.{State, rows_alike}
use Rattle.book.proofs.Tables.{every_from}
use Rattle.facts.proofs.Sums.{Sums, all_noted}
use Rattle.rules.specs.Outcome.{given}
use Rattle.rules.specs.Requests.{partner_of}
use Rattle.rules.specs.Requesting.{exposure_of, exposure_given}
use Rattle.rules.specs.Fields.{giver_in, taker_in, basket_or_exposure_in, closing_in}
use Rattle.rules.specs.Stock.{holding, position_from}
use Rattle.rules.specs.ByRow.{sound_exposure, sound_row, sound_position, same, other_key, distinct_key}
use Rattle.facts.specs.Good.{Good}
use Rattle.facts.proofs.Keeps.{Keeps, Amounts}
use Rattle.facts.proofs.Rows.{Stocked, exposure_sound, used_or_not, position_facts, position_none}
use Rattle.facts.proofs.Truth.{split, all_of}
use Rattle.request_laws.proofs.Covering.{Covers, is_row_table, leaving, parties_kept}
use Rattle.request_laws.proofs.Entries.{FopIn, fop_in, RequestIn}
use Rattle.request_laws.proofs.Finding.{has_key_lem, exposure_found, exposure_none}
use Rattle.request_laws.proofs.Staying.{same_row}
use Rattle.request_laws.proofs.Touching.{Writes, unwritten, write}

-- the tables of the exposures
abbrev pub is_exposure_table : ℕ → Bool
is_exposure_table f = leb in_use f && leb f exposure_amounts

row_no_exposure : (f : ℕ) → is_row_table f ≡ true → is_exposure_table f ≡ false
row_no_exposure f h = rw (lt-leb in_use f (omega (arith, leb-true f ends (and_right (leb numbers f) (leb f ends) h))))

-- nothing, whichever way a test goes
either_zero : (b : Bool) → ◌≡◌ {A = ℕ} (cond b 0 0) 0
either_zero true = refl
either_zero false = refl

-- two rows have one key
abbrev SameKey : State → ℕ → ℕ → Type 0
SameKey t d c = (f : ℕ) → exposure_givers ≤ f → f < exposure_givers + 4 → t f d ≡ t f c

module _ (t : State) (d c : ℕ) where
  other_key_lem : (t in_use c ≡ 1 → SameKey t d c → ⊥) → other_key t d c ≡ true
  other_key_lem never =
      let both = eqb (t in_use c) 1 ∷ rows_alike t key_tables d c ∷ [] in
      ⊎_elim
      (λ z. let k = split both z in
      absurd (never (eqb-true (t in_use c) 1 k.0) (λ f g l. eqb-true (t f d) (t f c) (all_at (λ f. same t f d c) 4 exposure_givers (sym (every_from (λ f. same t f d c) 4 exposure_givers) ∙ k.1) f g l))))
      (λ z. rw z)
      (either (eqb (t in_use c) 1 && rows_alike t key_tables d c))

same_key : (s t : State) (d c : ℕ) → ((f : ℕ) → t f d ≡ s f d) → ((f : ℕ) → t f c ≡ s f c) → other_key t d c ≡ other_key s d c
same_key s t d c p q = simp (p, q)

-- the row and its key
module _ (s : State) (r : List ℕ) (e : ℕ) where
  abbrev with : State
  with = exposure_given s r e

  here : eqb e e ≡ true
  here = eq-eqb e e refl

  -- it is found by its key
  pub given_found : e < 64 → exposure_of with r < 64
  given_found row =
      exposure_found with (giver_in r) (taker_in r) (basket_or_exposure_in r) (closing_in 6 r) e row
      (has_key_lem with (giver_in r) (taker_in r) (basket_or_exposure_in r) (closing_in 6 r) e (rw here) (rw here) (rw here) (rw here) (rw here))

  module _ (good : Good s) (row : e < 64) (unused : s in_use e ≡ 0) (none : exposure_of s r ≡ 64) (q : RequestIn s 6 r) (f : FopIn s r) where
    writes : Writes is_exposure_table s with e e
    writes =
        write exposure_amounts e 0 refl (inl refl) row (omega arith)
        (write exposure_closings e (closing_in 6 r) refl (inl refl) row q.closing_small
        (write exposure_baskets e (basket_or_exposure_in r) refl (inl refl) row (omega (arith, f.basket_below))
        (write exposure_takers e (taker_in r) refl (inl refl) row (omega (arith, q.parties.taker_below))
        (write exposure_givers e (giver_in r) refl (inl refl) row (omega (arith, q.parties.giver_below))
        (write in_use e 1 refl (inl refl) row (omega arith) (unwritten e e good.fits))))))

    -- another exposure's row stays
    other : (d : ℕ) → (d ≡ e → ⊥) → (f : ℕ) → with f d ≡ s f d
    other d n f = writes.other f d n n

    used_other : (d : ℕ) → s in_use d ≡ 1 → d ≡ e → ⊥
    used_other d u m = let z : s in_use e ≡ 1 = rw m at u in omega arith

    covers : Covers s with
    covers = record {
      mode = λ p. refl;
      map = λ b. refl;
      tolerance_same = refl;
      next_low = omega arith;
      used = λ d u. other d (used_other d u) in_use ∙ u;
      giver = λ d u. other d (used_other d u) exposure_givers;
      taker = λ d u. other d (used_other d u) exposure_takers;
      basket = λ d u. other d (used_other d u) exposure_baskets;
      closing = λ d u. other d (used_other d u) exposure_closings;
    }

    row_sound : (i : ℕ) → i < 256 → sound_row with i ≡ true
    row_sound i l =
        same_row covers good.facts i l (λ f h. writes.apart f i (row_no_exposure f h)) (λ u p f h. writes.apart f (partner_of s i) (row_no_exposure f h))

    -- no used exposure has the key
    new_key : (d : ℕ) → d < 64 → (d ≡ e → ⊥) → with in_use d ≡ 1 → SameKey with d e → ⊥
    new_key d l n u k =
        let at : (f x : ℕ) → with f d ≡ x → s f d ≡ x = λ f x z. sym (other d n f) ∙ z in
        exposure_none s (giver_in r) (taker_in r) (basket_or_exposure_in r) (closing_in 6 r) none d l
        (has_key_lem s (giver_in r) (taker_in r) (basket_or_exposure_in r) (closing_in 6 r) d (at in_use 1 u)
        (at exposure_givers (giver_in r) (k exposure_givers (omega arith) (omega arith) ∙ rw here))
        (at exposure_takers (taker_in r) (k exposure_takers (omega arith) (omega arith) ∙ rw here))
        (at exposure_baskets (basket_or_exposure_in r) (k exposure_baskets (omega arith) (omega arith) ∙ rw here))
        (at exposure_closings (closing_in 6 r) (k exposure_closings (omega arith) (omega arith) ∙ rw here)))

    keys : (d : ℕ) → d < 64 → distinct_key with d ≡ true
    keys d l =
        elim (ℕ_discrete d e) [
          | yes m ↦
              rw (m, here) (all_of (other_key with e) e 0 (λ c g k.
              let n : c ≡ e → ⊥ = λ z. omega arith in
              other_key_lem with e c (λ u q. new_key c (omega arith) n u (λ f a b. sym (q f a b)))))
          | no m ↦
              ⊎_elim
              (λ (z : s in_use d ≡ 0). rw (ne_eqb d e m) (rw z))
              (λ (u : s in_use d ≡ 1).
              let old : all (other_key s d) d 0 ≡ true = rw u at (good.facts.key d l) in
              rw (ne_eqb d e m) (rw u (all_of (other_key with d) d 0 (λ c g k. elim (ℕ_discrete c e) [
                | yes n ↦ other_key_lem with d c (λ v q. new_key d l m (other d m in_use ∙ u) (λ f a b. q f a b ∙ ap (with f) n))
                | no n ↦ same_key s with d c (other d m) (other c n) ∙ all_at (other_key s d) d 0 old c (omega arith) (omega arith)
              ]))))
              (used_or_not s d (good.facts.exposure d l))
        ]

    -- its position is empty
    empty : (i : ℕ) → i < 64 → s positions (64 * e + i) ≡ 0
    empty i l = ⊎_elim (λ z. z) (λ (x : Stocked s e i). absurd (omega (arith, x.used))) (position_facts s e i (good.facts.position e i row l))

    positions_sound : (d i : ℕ) → d < 64 → i < 64 → sound_position with d i ≡ true
    positions_sound d i k l =
        elim (ℕ_discrete d e) [
          | yes m ↦ position_none with d i (rw m (empty i l))
          | no m ↦ rw (ne_eqb d e m) (good.facts.position d i k l)
        ]

    bonds : (p i : ℕ) → i < 64 → holding with p i ≡ holding s p i
    unfolding holding
    bonds p i l = rw (sum_same (position_from with p i) (position_from s p i) 64 (λ d k. elim (ℕ_discrete d e) [
      | yes m ↦ rw (m, empty i l, either_zero (eqb (s in_use e) 1 && eqb (s exposure_givers e) p)) (either_zero (eqb (with in_use e) 1 && eqb (with exposure_givers e) p))
      | no m ↦ rw (ne_eqb d e m)
    ]))

    exposures_sound : (d : ℕ) → d < 64 → sound_exposure with d ≡ true
    unfolding all
    exposures_sound d l =
        elim (ℕ_discrete d e) [
          | yes m ↦ rw m (exposure_sound with e (rw here) (record {
            parties = rw here (parties_kept covers q.parties);
            basket_below = rw here f.basket_below;
            basket_known = rw here f.basket_known;
            closing = rw here f.closing;
            amount = rw here (omega arith);
          }))
          | no m ↦ rw (ne_eqb d e m) (good.facts.exposure d l)
        ]

    amounts : (p : Sums) → Amounts s p → Amounts with (all_noted p (given e ∷ []))
    unfolding all_noted
    amounts p h d =
        elim (ℕ_discrete d e) [
          | yes m ↦ rw (eq-eqb d e m)
          | no m ↦ rw (ne_eqb d e m) (h d)
        ]

    pub given_keeps : (a b m : ℕ) → Keeps s (leaving a b m with (given e ∷ []))
    given_keeps a b m =
        let h = good.facts in
        record {
          good = record {
            facts = record {
              head = h.head;
              security = h.security;
              participant = h.participant;
              basket = h.basket;
              spare = h.spare;
              row = row_sound;
              number = h.number;
              exposure = exposures_sound;
              key = keys;
              position = positions_sound;
              held = λ p i k l. rw (bonds p i l) (h.held p i k l);
            };
            fits = writes.fits;
          };
          bonds = λ p i k l. bonds p i l;
          amounts = amounts;
        }

    -- the record is as fit to enter as before
    pub given_request : RequestIn with 6 r
    given_request = record {
      side = q.side;
      parties = parties_kept covers q.parties;
      kind = fop_in refl (record { basket_below = f.basket_below; basket_known = f.basket_known; amount_low = f.amount_low; closing = f.closing });
      amount_low = q.amount_low;
      amount_high = q.amount_high;
      settlement = q.settlement;
      settlement_small = q.settlement_small;
      closing_small = q.closing_small;
      reference_small = q.reference_small;
    }
