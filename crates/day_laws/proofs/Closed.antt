-- Exposures closed: the whole position goes back to the giver and the amount becomes 0, one exposure after the other.
-- Assumes nothing.
use mathlib.Core.Path.{◌≡◌, refl, ◌∙◌}
use mathlib.Core.Bool.{true, cond}
use mathlib.Core.List.{[], ◌∷◌}
use Prim.Native.Nat.{ℕ, ◌≤◌, ◌<◌}
use native.Mathlib.Omega.{arith}
use lib.Dec.{eqb}
use borrow.Author.Tests.{eqb-true, eq-eqb, ne_eqb}
use Rattle.book.specs.Layout.{in_use, exposure_closings, exposure_amounts}
use Rattle.book.specs.State.{State}
use Rattle.rules.specs.DayChange.{on_each, is_reached, is_exposure_closed, exposure_closed, exposures_closed}
use Rattle.rules.specs.Stock.{position_of, give_back, holding}
use Rattle.facts.specs.Good.{Good}
use Rattle.facts.proofs.Stock.{position_at}
use Rattle.facts.proofs.Truth.{split}
use Rattle.bond_laws.proofs.Keeping.{good_give_back, good_amount}
use Rattle.bond_laws.proofs.Lots.{Returnable, give_back_lowerable, position_lots}
use Rattle.bond_laws.proofs.Moving.{give_back_position, holding_give_back}
use Rattle.day_laws.proofs.Each.{each_keeps, place_passed}

-- one exposure
module _ (s : State) (g : Good s) (e : ℕ) (l : e < 64) (u : s in_use e ≡ 1) where
  -- a whole position is in whole lots
  pub position_returnable : Returnable s e (position_of s e)
  position_returnable = record {
    enough = λ i m. omega (arith, position_at s e i m);
    whole = λ i m. rw (position_at s e i m) (position_lots s g.facts e i l m);
  }

  pub exposure_closed_good : Good (exposure_closed s e)
  exposure_closed_good =
      let n = position_of s e in
      good_amount (give_back s e n) e 0 (good_give_back s e n g l u position_returnable) l u (omega arith)
      (λ z i m. give_back_position s e n i m ∙ omega (arith, position_at s e i m))

  pub exposure_closed_holding : (p i : ℕ) → p < 32 → i < 64 → holding (exposure_closed s e) p i ≡ holding s p i
  unfolding holding
  exposure_closed_holding p i h m = holding_give_back s e (position_of s e) l u (give_back_lowerable position_returnable) p i h m

-- what a turn counts on, and keeps: a good book, the same exposures in use, each participant's bonds
pub record Closing (s t : State) : Type 0 where
  pub good : Good t
  pub used : (e : ℕ) → t in_use e ≡ s in_use e
  pub held : (p i : ℕ) → p < 32 → i < 64 → holding t p i ≡ holding s p i

-- what is closed is used
pub closed_used : (s : State) (e : ℕ) → is_exposure_closed s e ≡ true → s in_use e ≡ 1
closed_used s e h = eqb-true (s in_use e) 1 (split (eqb (s in_use e) 1 ∷ is_reached s (s exposure_closings e) ∷ []) h).0

pub closing_turned : (s : State) → Good s → (n : ℕ) → n ≤ 64 → Closing s (on_each (is_exposure_closed s) exposure_closed n s)
closing_turned s g n few =
    each_keeps (is_exposure_closed s) exposure_closed s (Closing s) n
    (λ t e l c k.
    let u : t in_use e ≡ 1 = k.used e ∙ closed_used s e c in
    let b : e < 64 = omega arith in
    record {
      good = exposure_closed_good t k.good e b u;
      used = k.used;
      held = λ p i h m. exposure_closed_holding t k.good e b u p i h m ∙ k.held p i h m;
    })
    (record { good = g; used = λ e. refl; held = λ p i h m. refl })

module _ (s : State) where
  pub exposures_closed_lem : Good s → Closing s (exposures_closed s)
  unfolding exposures_closed
  exposures_closed_lem g = closing_turned s g 64 (omega arith)

  -- the amounts
  pub exposures_closed_amount : (e : ℕ) → e < 64 → exposures_closed s exposure_amounts e ≡ cond (is_exposure_closed s e) 0 (s exposure_amounts e)
  unfolding exposures_closed
  exposures_closed_amount e l =
      rw (eq-eqb e e refl) at (place_passed (is_exposure_closed s) exposure_closed s (λ t. t exposure_amounts e) e (λ t d n. rw (ne_eqb e d n)) 64 l)
