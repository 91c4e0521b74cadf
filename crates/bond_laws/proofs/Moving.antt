-- Bonds that go from a giver's account into an exposure's position, or back: the row of each, every other row, and what the giver
-- holds in all, which stays.
-- Assumes nothing.
use mathlib.Core.Path.{◌≡◌, refl, sym, ◌∙◌}
use mathlib.Core.Bool.{and-false}
use mathlib.Core.List.{List}
use Prim.Native.Nat.{ℕ, ◌+◌, ◌*◌, ◌-◌, ◌≤◌, ◌<◌}
use native.Mathlib.Decide.{ℕ_discrete}
use native.Mathlib.Omega.{arith}
use lib.ListN.{get_or}
use borrow.Author.Tests.{eq-eqb, ne_eqb}
use Rattle.laws.proofs.Sum.{sum_same, sum_part, sum_one}
use Rattle.book.specs.Layout.{in_use, exposure_givers, accounts, positions}
use Rattle.book.specs.State.{State, lowered}
use Rattle.book.specs.Fits.{Raisable, Lowerable, Fits}
use Rattle.book.proofs.Moves.{raised_at, lowered_at, raised_other, lowered_other, raised_fits, lowered_fits}
use Rattle.rules.specs.Stock.{pledge, give_back, holding, position_from}

-- two rows of 64 numbers have none in common
apart : (p q i : ℕ) → (p ≡ q → ⊥) → i < 64 → 64 * q ≤ 64 * p + i → 64 * p + i < 64 * q + 64 → ⊥
apart p q i d l h m = omega arith

module _ (s : State) (e : ℕ) (n : List ℕ) where
  -- a pledge: the giver's account, the exposure's position, and any other
  pub pledge_account : (i : ℕ) → i < 64 → pledge s e n accounts (64 * s exposure_givers e + i) ≡ s accounts (64 * s exposure_givers e + i) - get_or n i 0
  pledge_account i l = lowered_at s accounts (64 * s exposure_givers e) n i l

  pub pledge_position : (i : ℕ) → i < 64 → pledge s e n positions (64 * e + i) ≡ s positions (64 * e + i) + get_or n i 0
  pledge_position i l = raised_at s positions (64 * e) n i l

  pub pledge_other_account : (p i : ℕ) → (p ≡ s exposure_givers e → ⊥) → i < 64 → pledge s e n accounts (64 * p + i) ≡ s accounts (64 * p + i)
  pledge_other_account p i d l = lowered_other s accounts (64 * s exposure_givers e) n accounts (64 * p + i) (λ q. apart p (s exposure_givers e) i d l)

  pub pledge_other_position : (d i : ℕ) → (d ≡ e → ⊥) → i < 64 → pledge s e n positions (64 * d + i) ≡ s positions (64 * d + i)
  pledge_other_position d i m l = raised_other s positions (64 * e) n positions (64 * d + i) (λ q. apart d e i m l)

  -- a giving back: the same the other way
  pub give_back_account : (i : ℕ) → i < 64 → give_back s e n accounts (64 * s exposure_givers e + i) ≡ s accounts (64 * s exposure_givers e + i) + get_or n i 0
  give_back_account i l = raised_at s accounts (64 * s exposure_givers e) n i l

  pub give_back_position : (i : ℕ) → i < 64 → give_back s e n positions (64 * e + i) ≡ s positions (64 * e + i) - get_or n i 0
  give_back_position i l = lowered_at s positions (64 * e) n i l

  pub give_back_other_account : (p i : ℕ) → (p ≡ s exposure_givers e → ⊥) → i < 64 → give_back s e n accounts (64 * p + i) ≡ s accounts (64 * p + i)
  give_back_other_account p i d l = raised_other s accounts (64 * s exposure_givers e) n accounts (64 * p + i) (λ q. apart p (s exposure_givers e) i d l)

  pub give_back_other_position : (d i : ℕ) → (d ≡ e → ⊥) → i < 64 → give_back s e n positions (64 * d + i) ≡ s positions (64 * d + i)
  give_back_other_position d i m l = lowered_other s positions (64 * e) n positions (64 * d + i) (λ q. apart d e i m l)

-- bonds changed places between the account and the position of one exposure
pub record Exchanged (s t : State) (e : ℕ) : Type 0 where
  pub used : (d : ℕ) → t in_use d ≡ s in_use d
  pub giver : (d : ℕ) → t exposure_givers d ≡ s exposure_givers d
  pub account : (p i : ℕ) → (p ≡ s exposure_givers e → ⊥) → i < 64 → t accounts (64 * p + i) ≡ s accounts (64 * p + i)
  pub position : (d i : ℕ) → (d ≡ e → ⊥) → i < 64 → t positions (64 * d + i) ≡ s positions (64 * d + i)
  pub together : (i : ℕ) → i < 64 → t accounts (64 * s exposure_givers e + i) + t positions (64 * e + i) ≡ s accounts (64 * s exposure_givers e + i) + s positions (64 * e + i)

-- a giver's own used exposure, and any other, in the giver's holding
own_position : (s : State) (p e i : ℕ) → s exposure_givers e ≡ p → s in_use e ≡ 1 → position_from s p i e ≡ s positions (64 * e + i)
own_position s p e i g u = rw (eq-eqb (s in_use e) 1 u, eq-eqb (s exposure_givers e) p g)

no_position_lem : (s : State) (p e i : ℕ) → (p ≡ s exposure_givers e → ⊥) → position_from s p i e ≡ 0
no_position_lem s p e i d = rw (ne_eqb (s exposure_givers e) p (λ q. d (sym q)), and-false)

module _ (s t : State) (e : ℕ) (below : e < 64) (u : s in_use e ≡ 1) (x : Exchanged s t e) (i : ℕ) (l : i < 64) where
  same_position : (p d : ℕ) → (d ≡ e → ⊥) → position_from t p i d ≡ position_from s p i d
  same_position p d m = rw (x.used d, x.giver d, x.position d i m l)

  giver_holds : holding t (s exposure_givers e) i ≡ holding s (s exposure_givers e) i
  unfolding holding
  giver_holds =
      let g = s exposure_givers e in
      let before = own_position s g e i refl u in
      let after = own_position t g e i (x.giver e) (x.used e ∙ u) in
      omega (arith, sum_one (position_from t g i) (position_from s g i) e 64 below (same_position g), x.together i l)

  other_holds : (p : ℕ) → (p ≡ s exposure_givers e → ⊥) → holding t p i ≡ holding s p i
  unfolding holding
  other_holds p d =
      let each : (c : ℕ) → c < 64 → position_from t p i c ≡ position_from s p i c =
      λ c m. elim (ℕ_discrete c e) [
        | yes q ↦ rw q (no_position_lem t p e i (λ z. d (z ∙ x.giver e)) ∙ sym (no_position_lem s p e i d))
        | no q ↦ same_position p c q
      ] in
      omega (arith, sum_same (position_from t p i) (position_from s p i) 64 each, x.account p i d l)

  pub holding_exchanged : (p : ℕ) → holding t p i ≡ holding s p i
  holding_exchanged p = elim (ℕ_discrete p (s exposure_givers e)) [ yes q ↦ rw q giver_holds | no q ↦ other_holds p q ]

module _ (s : State) (e : ℕ) (n : List ℕ) where
  pub pledge_exchanged : Lowerable s accounts (64 * s exposure_givers e) n → Exchanged s (pledge s e n) e
  pledge_exchanged h = record {
    used = λ d. refl;
    giver = λ d. refl;
    account = pledge_other_account s e n;
    position = pledge_other_position s e n;
    together = λ i l. omega (arith, pledge_account s e n i l, pledge_position s e n i l, h.enough i l);
  }

  pub give_back_exchanged : Lowerable s positions (64 * e) n → Exchanged s (give_back s e n) e
  give_back_exchanged h = record {
    used = λ d. refl;
    giver = λ d. refl;
    account = give_back_other_account s e n;
    position = give_back_other_position s e n;
    together = λ i l. omega (arith, give_back_account s e n i l, give_back_position s e n i l, h.enough i l);
  }

  module _ (below : e < 64) (u : s in_use e ≡ 1) where
    -- what each participant holds in all stays
    pub holding_pledge : Lowerable s accounts (64 * s exposure_givers e) n → (p i : ℕ) → p < 32 → i < 64 → holding (pledge s e n) p i ≡ holding s p i
    holding_pledge h p i m l = holding_exchanged s (pledge s e n) e below u (pledge_exchanged h) i l p

    pub holding_give_back : Lowerable s positions (64 * e) n → (p i : ℕ) → p < 32 → i < 64 → holding (give_back s e n) p i ≡ holding s p i
    holding_give_back h p i m l = holding_exchanged s (give_back s e n) e below u (give_back_exchanged h) i l p

    module _ (g : s exposure_givers e < 32) (held : (p i : ℕ) → p < 32 → i < 64 → holding s p i ≤ 500000000) where
      -- account and position are parts of a holding
      both_parts : (i : ℕ) → i < 64 → s accounts (64 * s exposure_givers e + i) + s positions (64 * e + i) ≤ 500000000
      unfolding holding
      both_parts i l =
          omega (arith, held (s exposure_givers e) i g l, sum_part (position_from s (s exposure_givers e) i) e 64 below, own_position s (s exposure_givers e) e i refl u)

      -- so the row that takes the bonds in has room for them, once the other is lower
      pub pledge_raisable : Lowerable s accounts (64 * s exposure_givers e) n → Raisable (lowered s accounts (64 * s exposure_givers e) n) positions (64 * e) n
      pledge_raisable h = record { room = λ i l. omega (arith, both_parts i l, h.enough i l) }

      pub give_back_raisable : Lowerable s positions (64 * e) n → Raisable (lowered s positions (64 * e) n) accounts (64 * s exposure_givers e) n
      give_back_raisable h = record { room = λ i l. omega (arith, both_parts i l, h.enough i l) }

      pub fits_pledge : Lowerable s accounts (64 * s exposure_givers e) n → Fits s → Fits (pledge s e n)
      fits_pledge h fit =
          let less = lowered s accounts (64 * s exposure_givers e) n in
          raised_fits less positions (64 * e) n (lowered_fits s accounts (64 * s exposure_givers e) n fit refl (omega arith)) refl (omega arith) (pledge_raisable h)

      pub fits_give_back : Lowerable s positions (64 * e) n → Fits s → Fits (give_back s e n)
      fits_give_back h fit =
          let less = lowered s positions (64 * e) n in
          raised_fits less accounts (64 * s exposure_givers e) n (lowered_fits s positions (64 * e) n fit refl (omega arith)) refl (omega arith) (give_back_raisable h)
