-- A step on each of the numbers below n that pass a test, one turn after the other: what stays with each turn, and what stands where
-- each turn changes its own place alone.
-- Assumes nothing.
use mathlib.Core.Path.{◌≡◌, refl, sym, ap, ◌∙◌}
use mathlib.Core.Bool.{Bool, true, false, cond}
use mathlib.Core.Logic.{⊎_elim}
use Prim.Native.Nat.{ℕ, zero, suc, ◌≤◌, ◌<◌}
use native.Mathlib.Decide.{ℕ_discrete}
use native.Mathlib.Nat.{le_refl}
use native.Mathlib.Omega.{arith}
use Rattle.laws.proofs.Cases.{either}
use Rattle.book.specs.State.{State}
use Rattle.rules.specs.DayChange.{on_each}

-- a number that only the turn i changes: before that turn and after it
module _ (x : ℕ → ℕ) (i : ℕ) (other : (n : ℕ) → (i ≡ n → ⊥) → x (suc n) ≡ x n) where
  pub before_turn : (n : ℕ) → n ≤ i → x n ≡ x 0
  before_turn zero l = refl
  before_turn (suc n) l = other n (omega arith) ∙ before_turn n (omega arith)

  pub after_turn : (n : ℕ) → i < n → x n ≡ x (suc i)
  after_turn zero l = absurd (omega arith)
  after_turn (suc n) l =
      let before = after_turn n in
      elim (ℕ_discrete i n) [ yes e ↦ ap (λ (k : ℕ). x (suc k)) (sym e) | no d ↦ other n d ∙ before (omega arith) ]

module _ (test : ℕ → Bool) (step : State → ℕ → State) (s : State) where
  -- a turn as it is taken, and one that is left out
  turn_taken : (n : ℕ) → test n ≡ true → on_each test step (suc n) s ≡ step (on_each test step n s) n
  unfolding on_each
  turn_taken n e = rw e

  turn_left : (n : ℕ) → test n ≡ false → on_each test step (suc n) s ≡ on_each test step n s
  unfolding on_each
  turn_left n e = rw e

  pub no_turn : on_each test step 0 s ≡ s
  unfolding on_each
  no_turn = refl

  -- what holds at the start, and stays with each turn, holds after n
  pub each_keeps : (P : State → Type 0) (n : ℕ) → ((t : State) (i : ℕ) → i < n → test i ≡ true → P t → P (step t i)) → P s → P (on_each test step n s)
  each_keeps P zero h p = rw no_turn p
  each_keeps P (suc n) h p =
      let before = each_keeps P n (λ t i l. h t i (omega arith)) p in
      ⊎_elim
      (λ e. rw (turn_taken n e) (h (on_each test step n s) n (omega arith) e before))
      (λ e. rw (turn_left n e) before)
      (either (test n))

  -- a number of the state that only the turn i changes
  module _ (read : State → ℕ) (i : ℕ) (own : (t : State) (j : ℕ) → (i ≡ j → ⊥) → read (step t j) ≡ read t) where
    other_turn : (n : ℕ) → (i ≡ n → ⊥) → read (on_each test step (suc n) s) ≡ read (on_each test step n s)
    other_turn n d =
        ⊎_elim
        (λ (e : test n ≡ true). rw (turn_taken n e) (own (on_each test step n s) n d))
        (λ (e : test n ≡ false). rw (turn_left n e))
        (either (test n))

    pub place_ahead : (n : ℕ) → n ≤ i → read (on_each test step n s) ≡ read s
    place_ahead n l = rw no_turn at (before_turn (λ n. read (on_each test step n s)) i other_turn n l)

    pub place_passed : (n : ℕ) → i < n → read (on_each test step n s) ≡ cond (test i) (read (step (on_each test step i s) i)) (read s)
    place_passed n l =
        after_turn (λ n. read (on_each test step n s)) i other_turn n l
        ∙ ⊎_elim
        (λ (e : test i ≡ true). rw (turn_taken i e, e))
        (λ (e : test i ≡ false). rw (turn_left i e, e) (place_ahead i (le_refl i)))
        (either (test i))
