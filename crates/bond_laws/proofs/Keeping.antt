-- A sound book stays sound when bonds move in whole lots, and when an exposure's amount changes.
-- Assumes nothing.
use mathlib.Core.Path.{◌≡◌, refl, sym, subst, ◌∙◌, fun_ext}
use mathlib.Core.Bool.{true, cond}
use mathlib.Core.List.{List}
use mathlib.Core.Logic.{◌⊎◌, inl, inr, ⊎_elim}
use Prim.Native.Nat.{ℕ, ◌+◌, ◌*◌, ◌≤◌, ◌<◌}
use native.Mathlib.Decide.{ℕ_discrete}
use native.Mathlib.Omega.{arith}
use lib.Dec.{eqb}
use lib.ListN.{get_or}
use borrow.Author.Tests.{eq-eqb, ne_eqb, le-leb}
use Rattle.laws.specs.Search.{all}
use Rattle.book.specs.Layout.{in_use, exposure_givers, exposure_amounts, accounts, positions, spares, rows_of}
use Rattle.book.specs.State.{State, put, lowered}
use Rattle.book.specs.Fits.{Fits}
use Rattle.book.proofs.Images.{put_same, put_apart, put_fits}
use Rattle.book.proofs.Moves.{raised_other, lowered_other}
use Rattle.rules.specs.ByRow.{sound_head, sound_security, sound_participant, sound_basket, is_spare, sound_row, distinct_number, sound_exposure, distinct_key, sound_position}
use Rattle.rules.specs.Stock.{pledge, give_back, holding}
use Rattle.facts.specs.Good.{Good}
use Rattle.facts.proofs.Rows.{used_exposure, position_facts, position_none, position_stocked}
use Rattle.bond_laws.proofs.Lots.{InLots, Pledgeable, Returnable, pledge_lowerable, give_back_lowerable, lots_add, lots_sub, position_lots}
use Rattle.bond_laws.proofs.Moving.{pledge_position, pledge_other_position, give_back_position, give_back_other_position, holding_pledge, holding_give_back, fits_pledge, fits_give_back}

-- a state with other amounts, accounts and positions: it differs in these three tables alone
abbrev stocked : State → (ℕ → ℕ) → (ℕ → ℕ) → (ℕ → ℕ) → State
stocked s amount account position f j = cond (eqb f exposure_amounts) (amount j) (cond (eqb f accounts) (account j) (cond (eqb f positions) (position j) (s f j)))

pub record Restocked (s t : State) : Type 0 where
  pub same : (f j : ℕ) → (f ≡ exposure_amounts → ⊥) → (f ≡ accounts → ⊥) → (f ≡ positions → ⊥) → t f j ≡ s f j
  pub exposure : (e : ℕ) → e < 64 → sound_exposure t e ≡ true
  pub position : (e i : ℕ) → e < 64 → i < 64 → sound_position t e i ≡ true
  pub held : (p i : ℕ) → p < 32 → i < 64 → holding t p i ≡ holding s p i
  pub fits : Fits t

module _ (s t : State) (h : Good s) (r : Restocked s t) where
  as_stocked : t ≡ stocked s (t exposure_amounts) (t accounts) (t positions)
  as_stocked =
      fun_ext (λ f.
      fun_ext (λ j.
      elim (ℕ_discrete f exposure_amounts) [
        | yes x ↦ rw x
        | no x ↦ elim (ℕ_discrete f accounts) [
          | yes a ↦ rw a
          | no a ↦ elim (ℕ_discrete f positions) [
            | yes p ↦ rw p
            | no p ↦ rw (ne_eqb f exposure_amounts x, ne_eqb f accounts a, ne_eqb f positions p) (r.same f j x a p)
          ]
        ]
      ]))

  -- a clause that reads none of the three
  kept : (P : State → Type 0) → P (stocked s (t exposure_amounts) (t accounts) (t positions)) → P t
  kept P c = subst P (sym as_stocked) c

  pub good_restocked : Good t
  unfolding all
  good_restocked =
      let f = h.facts in
      record {
        facts = record {
          head = kept (λ (t : State). sound_head t ≡ true) f.head;
          security = kept (λ (t : State). (i : ℕ) → i < 64 → sound_security t i ≡ true) f.security;
          participant = kept (λ (t : State). (p : ℕ) → p < 32 → sound_participant t p ≡ true) f.participant;
          basket = kept (λ (t : State). (b : ℕ) → b < 16 → sound_basket t b ≡ true) f.basket;
          spare = kept (λ (t : State). (k : ℕ) → k < rows_of spares → is_spare t k ≡ true) f.spare;
          row = kept (λ (t : State). (i : ℕ) → i < 256 → sound_row t i ≡ true) f.row;
          number = kept (λ (t : State). (i : ℕ) → i < 256 → distinct_number t i ≡ true) f.number;
          exposure = r.exposure;
          key = kept (λ (t : State). (e : ℕ) → e < 64 → distinct_key t e ≡ true) f.key;
          position = r.position;
          held = λ p i m l. rw (r.held p i m l) (f.held p i m l);
        };
        fits = r.fits;
      }

-- a position in whole lots is sound, where it is none or stands in a used exposure whose amount is not 0
sound_position_lem : (s : State) (e i : ℕ) → InLots s i (s positions (64 * e + i)) → (s positions (64 * e + i) ≡ 0) ⊎ ((s in_use e ≡ 1) × (s exposure_amounts e ≡ 0 → ⊥)) → sound_position s e i ≡ true
sound_position_lem s e i w (inl z) = position_none s e i z
sound_position_lem s e i (inl z) (inr a) = position_none s e i z
sound_position_lem s e i (inr w) (inr a) = position_stocked s e i (record { used = a.0; amount = a.1; known = w.0; whole = w.1 })

-- the giver of a used exposure
pub giver_below : (s : State) (e : ℕ) → Good s → e < 64 → s in_use e ≡ 1 → s exposure_givers e < 32
giver_below s e h below u = (used_exposure s e (h.facts.exposure e below) u).parties.giver_below

module _ (s : State) (e : ℕ) (n : List ℕ) (h : Good s) (below : e < 64) (u : s in_use e ≡ 1) where
  abbrev giver : ℕ
  giver = s exposure_givers e

  -- bonds into an exposure whose amount is not 0
  pub good_pledge : (s exposure_amounts e ≡ 0 → ⊥) → Pledgeable s e n → Good (pledge s e n)
  unfolding all
  good_pledge a p =
      good_restocked s (pledge s e n) h (record {
        same = λ f j x k q.
            raised_other (lowered s accounts (64 * giver) n) positions (64 * e) n f j (λ z l m. q z) ∙ lowered_other s accounts (64 * giver) n f j (λ z l m. k z);
        exposure = h.facts.exposure;
        position = λ d i m l.
            elim (ℕ_discrete d e) [
              | yes q ↦ rw q (sound_position_lem (pledge s e n) e i
                  (rw (pledge_position s e n i l) (lots_add s i (s positions (64 * e + i)) (get_or n i 0) (position_lots s h.facts e i below l) (p.whole i l)))
                  (inr (u, a)))
              | no q ↦ rw (pledge_other_position s e n d i q l) (h.facts.position d i m l)
            ];
        held = holding_pledge s e n below u (pledge_lowerable p);
        fits = fits_pledge s e n below u (giver_below s e h below u) h.facts.held (pledge_lowerable p) h.fits;
      })

  -- bonds back to the giver
  pub good_give_back : Returnable s e n → Good (give_back s e n)
  unfolding all
  good_give_back r =
      good_restocked s (give_back s e n) h (record {
        same = λ f j x k q.
            raised_other (lowered s positions (64 * e) n) accounts (64 * giver) n f j (λ z l m. k z) ∙ lowered_other s positions (64 * e) n f j (λ z l m. q z);
        exposure = h.facts.exposure;
        position = λ d i m l.
            elim (ℕ_discrete d e) [
              | yes q ↦ rw q (sound_position_lem (give_back s e n) e i
                  (rw (give_back_position s e n i l) (lots_sub s i (s positions (64 * e + i)) (get_or n i 0) (position_lots s h.facts e i below l) (r.whole i l)))
                  (⊎_elim
                  (λ z. inl (give_back_position s e n i l ∙ omega arith))
                  (λ k. inr (u, k.amount))
                  (position_facts s e i (h.facts.position e i below l))))
              | no q ↦ rw (give_back_other_position s e n d i q l) (h.facts.position d i m l)
            ];
        held = holding_give_back s e n below u (give_back_lowerable r);
        fits = fits_give_back s e n below u (giver_below s e h below u) h.facts.held (give_back_lowerable r) h.fits;
      })

-- another amount: an exposure of amount 0 has no position
module _ (s : State) (e x : ℕ) (h : Good s) (below : e < 64) (u : s in_use e ≡ 1) (small : x ≤ 10000000000000) where
  amount_exposure : (d : ℕ) → d < 64 → sound_exposure (put s exposure_amounts e x) d ≡ true
  unfolding all
  amount_exposure d m =
      elim (ℕ_discrete d e) [
        | yes q ↦
            let old = (used_exposure s e (h.facts.exposure e below) u).amount in
            rw (q, u, eq-eqb e e refl, le-leb x 10000000000000 small) (rw (u, le-leb (s exposure_amounts e) 10000000000000 old) at (h.facts.exposure e below))
        | no q ↦ rw (ne_eqb d e q) (h.facts.exposure d m)
      ]

  pub good_amount : (x ≡ 0 → (i : ℕ) → i < 64 → s positions (64 * e + i) ≡ 0) → Good (put s exposure_amounts e x)
  unfolding holding
  good_amount none =
      good_restocked s (put s exposure_amounts e x) h (record {
        same = λ f j n k q. put_apart s exposure_amounts e x f j n;
        exposure = amount_exposure;
        position = λ d i m l.
            elim (ℕ_discrete d e) [
              | yes q ↦ rw q (sound_position_lem (put s exposure_amounts e x) e i (position_lots s h.facts e i below l)
                  (elim (ℕ_discrete x 0) [ yes z ↦ inl (none z i l) | no z ↦ inr (u, rw (put_same s exposure_amounts e x) z) ]))
              | no q ↦ rw (ne_eqb d e q) (h.facts.position d i m l)
            ];
        held = λ p i m l. refl;
        fits = put_fits s exposure_amounts e x h.fits (omega arith) below (omega arith);
      })

-- the amount first, or the bonds first
pub give_back_put : (s : State) (e x : ℕ) (n : List ℕ) → give_back (put s exposure_amounts e x) e n ≡ put (give_back s e n) exposure_amounts e x
give_back_put s e x n =
    fun_ext (λ f. fun_ext (λ j. elim (ℕ_discrete f exposure_amounts) [ yes q ↦ rw q | no q ↦ rw (ne_eqb f exposure_amounts q) ]))

-- another amount and bonds back at once, all of them where the amount is 0: between the two the book may not be sound
pub good_lowered : (s : State) (e x : ℕ) (n : List ℕ) → Good s → e < 64 → s in_use e ≡ 1 → x ≤ 10000000000000 → Returnable s e n
    → (x ≡ 0 → (i : ℕ) → i < 64 → get_or n i 0 ≡ s positions (64 * e + i)) → Good (give_back (put s exposure_amounts e x) e n)
good_lowered s e x n h below u small r entire =
    rw give_back_put
    (good_amount (give_back s e n) e x (good_give_back s e n h below u r) below u small
    (λ z i l. give_back_position s e n i l ∙ omega (arith, entire z i l)))
