-- What the ledger is told of a next day: each closed exposure's amount goes to its closes, once, and nothing else.
-- Assumes nothing.
use mathlib.Core.Path.{◌≡◌, refl, ◌∙◌}
use mathlib.Core.Bool.{true, false, cond}
use mathlib.Core.List.{[]}
use mathlib.Core.Logic.{⊎_elim}
use Prim.Native.Nat.{ℕ, zero, suc, ◌+◌, ◌≤◌, ◌<◌}
use native.Mathlib.Nat.{le_refl}
use native.Mathlib.Omega.{arith}
use borrow.Author.Tests.{eq-eqb, ne_eqb}
use Rattle.laws.proofs.Cases.{either}
use Rattle.book.specs.Layout.{exposure_amounts}
use Rattle.book.specs.State.{State}
use Rattle.rules.specs.DayChange.{is_exposure_closed, closing_events}
use Rattle.facts.proofs.Sums.{Sums, noted, all_noted, noted_append, noted_one}
use Rattle.rules.specs.Outcome.{closed}
use Rattle.day_laws.proofs.Each.{before_turn, after_turn}

module _ (s : State) (p : Sums) where
  -- the paper after the exposures below n
  abbrev told : ℕ → Sums
  told n = all_noted p (closing_events s n)

  told_closed : (n : ℕ) → is_exposure_closed s n ≡ true → told (suc n) ≡ noted (told n) (closed n (s exposure_amounts n))
  unfolding closing_events all_noted
  told_closed n e = rw e (noted_one p (closing_events s n) (closed n (s exposure_amounts n)))

  told_left : (n : ℕ) → is_exposure_closed s n ≡ false → told (suc n) ≡ told n
  unfolding closing_events all_noted
  told_left n e = rw e (noted_append p (closing_events s n) [])

  told_none : told 0 ≡ p
  unfolding closing_events all_noted
  told_none = refl

  -- what was settled in, and what was returned, stays
  pub told_others : (n e : ℕ) → ((told n).settled_in e ≡ p.settled_in e) × ((told n).returns e ≡ p.returns e)
  told_others zero e = rw told_none (refl, refl)
  told_others (suc n) e =
      let before = told_others n e in
      ⊎_elim (λ c. rw (told_closed n c) before) (λ c. rw (told_left n c) before) (either (is_exposure_closed s n))

  -- the closes change with the exposure's own turn
  module _ (e : ℕ) where
    other_told : (n : ℕ) → (e ≡ n → ⊥) → (told (suc n)).closes e ≡ (told n).closes e
    other_told n d = ⊎_elim (λ c. rw (told_closed n c, ne_eqb e n d)) (λ c. rw (told_left n c)) (either (is_exposure_closed s n))

    pub told_ahead : (n : ℕ) → n ≤ e → (told n).closes e ≡ p.closes e
    told_ahead n l = rw told_none at (before_turn (λ n. (told n).closes e) e other_told n l)

    pub told_passed : (n : ℕ) → e < n → (told n).closes e ≡ p.closes e + cond (is_exposure_closed s e) (s exposure_amounts e) 0
    told_passed n l =
        after_turn (λ n. (told n).closes e) e other_told n l
        ∙ ⊎_elim
        (λ (c : is_exposure_closed s e ≡ true). rw (told_closed e c, c, eq-eqb e e refl, told_ahead e (le_refl e)))
        (λ (c : is_exposure_closed s e ≡ false). rw (told_left e c, c) (omega (arith, told_ahead e (le_refl e))))
        (either (is_exposure_closed s e))
