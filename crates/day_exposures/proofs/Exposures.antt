-- Exposures in a day change: closing one keeps what closing counts on, and no step touches the tests of the others.
-- Assumes nothing.
use mathlib.Core.Path.{◌≡◌, refl, ap, ◌∙◌}
use mathlib.Core.Bool.{true, false}
use mathlib.Core.Logic.{⊎_elim}
use Prim.Native.Nat.{ℕ, ◌≤◌, ◌<◌}
use native.Mathlib.Omega.{arith}
use borrow.Author.Tests.{ne_eqb}
use Rattle.laws.proofs.Cases.{either}
use Rattle.book.specs.Layout.{in_use}
use Rattle.book.specs.State.{State}
use Rattle.rules.specs.DayChange.{on_each, is_exposure_closed, exposure_closed, is_idle, exposure_freed}
use Rattle.rules.specs.Stock.{position_of}
use Rattle.facts.specs.Good.{Sound}
use Rattle.facts.proofs.Rows.{used_exposure}
use Rattle.facts.proofs.Stock.{position_at}
use Rattle.bond_laws.proofs.Moving.{give_back_raisable}
use Rattle.day_laws.proofs.Closed.{closed_used}
use Rattle.day_rows.proofs.OnEach.{each_leaves}
use Rattle.day_exposures.specs.Parts.{amount_closed, Entire, Closable}

-- a sound book's exposures can be closed
pub sound_closable : (s : State) → Sound s → Closable s
sound_closable s f =
    record {
      giver = λ e l u. (used_exposure s e (f.exposure e l) u).parties.giver_below;
      amount = λ e l u. (used_exposure s e (f.exposure e l) u).amount;
      held = f.held;
    }

-- a whole position may go back to its giver
pub entire_back : (s : State) (e : ℕ) → e < 64 → s in_use e ≡ 1 → Closable s → Entire s e
entire_back s e l u h =
    let g = h.giver e l u in
    let raisable = give_back_raisable s e (position_of s e) l u g h.held (record { enough = λ i m. omega (arith, position_at s e i m) }) in
    record { below = l; giver = g; room = λ i m. omega (arith, raisable.room i m, position_at s e i m) }

-- the tests and amounts of exposures after one that is closed, and after one that is freed
module _ (s : State) (j e : ℕ) (l : j < e) where
  pub closed_apart : is_exposure_closed (exposure_closed s j) e ≡ is_exposure_closed s e
  closed_apart = refl

  closed_amount_apart : amount_closed (exposure_closed s j) e ≡ amount_closed s e
  closed_amount_apart = rw (ne_eqb e j (λ q. omega arith))

  pub freed_apart : is_idle (exposure_freed s j) e ≡ is_idle s e
  freed_apart = rw (ne_eqb e j (λ q. omega arith))

-- so each amount is that of the state before
pub amount_before : (s : State) (e : ℕ) {t : State} {x : ℕ} → t ≡ on_each (is_exposure_closed s) exposure_closed e s → x ≡ amount_closed t e → x ≡ amount_closed s e
amount_before s e q h =
    h ∙ ap (λ (t : State). amount_closed t e) q ∙ each_leaves (is_exposure_closed s) exposure_closed (λ t. amount_closed t e) e (λ t j l. closed_amount_apart t j e l) s

-- an amount closed is that of a used exposure, or none
pub amount_le : (s : State) (e : ℕ) → e < 64 → Closable s → amount_closed s e ≤ 10000000000000
amount_le s e l h =
    ⊎_elim
    (λ (q : is_exposure_closed s e ≡ true). rw q (h.amount e l (closed_used s e q)))
    (λ (q : is_exposure_closed s e ≡ false). rw q (omega arith))
    (either (is_exposure_closed s e))
