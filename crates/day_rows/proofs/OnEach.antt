-- A step on each row that passes a test: what it leaves, and a loop that tests on the way.
-- Assumes nothing.
use mathlib.Core.Path.{◌≡◌, refl, sym, ap, ◌∙◌}
use mathlib.Core.Bool.{Bool, true, false, cond}
use mathlib.Core.Logic.{⊎_elim}
use Prim.Native.Nat.{ℕ, ◌+◌, ◌-◌, ◌<◌}
use native.Mathlib.Nat.{zero-add}
use native.Mathlib.Numerals.{add-one}
use native.Mathlib.Omega.{arith}
use Rattle.laws.specs.Search.{count}
use Rattle.laws.proofs.Cases.{either}
use Rattle.laws.proofs.Least.{count_here, count_on}
use Rattle.book.specs.State.{State}
use Rattle.rules.specs.DayChange.{on_each}
use Rattle.day_laws.proofs.Each.{each_keeps}
use Rattle.day_rows.specs.Parts.{tried}

module _ (test : ℕ → Bool) (step : State → ℕ → State) where
  -- one row more, in the code's i + 1
  each_next : (i : ℕ) (s : State) → on_each test step (i + 1) s ≡ cond (test i) (step (on_each test step i s) i) (on_each test step i s)
  unfolding on_each
  each_next i s = rw add-one

  -- what no step below n changes, they leave
  pub each_leaves : {A : Type 0} (read : State → A) (n : ℕ) → ((s : State) (j : ℕ) → j < n → read (step s j) ≡ read s) → (s : State) → read (on_each test step n s) ≡ read s
  each_leaves read n h s = each_keeps test step s (λ t. read t ≡ read s) n (λ t j l p e. h t j l ∙ e) refl

-- one row less to count
count_passes : (t : ℕ → Bool) (n i : ℕ) → i < n → count t (n - i) i ≡ cond (t i) 1 0 + count t (n - (i + 1)) (i + 1)
count_passes t n i l = ⊎_elim (λ h. rw h (count_here t n i l h)) (λ h. rw h (count_on t n i l h ∙ sym (zero-add (count t (n - (i + 1)) (i + 1))))) (either (t i))

-- Where the step at a row leaves the tests of the rows after it, testing on the way is the same as testing before.
module _ (test : State → ℕ → Bool) (step : State → ℕ → State) (apart : (s : State) (j i : ℕ) → j < i → test (step s j) i ≡ test s i) where
  pub tested_before : (s : State) (i : ℕ) → test (on_each (test s) step i s) i ≡ test s i
  tested_before s i = each_leaves (test s) step (λ t. test t i) i (λ t j l. apart t j i l) s

  pub loop_steps : (s : State) (i : ℕ) {t u : State} → t ≡ on_each (test s) step i s → u ≡ tried test step t i → u ≡ on_each (test s) step (i + 1) s
  loop_steps s i {t} {u} e f =
      let on = on_each (test s) step i s in
      f ∙ ap (λ (x : State). tried test step x i) e ∙ ap (λ (b : Bool). cond b (step on i) on) (tested_before s i) ∙ sym (each_next (test s) step i s)

  -- a loop that counts the rows that pass: what it has counted, and what is left to count
  pub loop_counts : (s : State) (n i d : ℕ) {t : State} {r : ℕ} → i < n → t ≡ on_each (test s) step i s → r ≡ cond (test t i) 1 0 → d + count (test s) (n - i) i ≡ count (test s) n 0
      → d + r + count (test s) (n - (i + 1)) (i + 1) ≡ count (test s) n 0
  loop_counts s n i d {t} {r} l e q h =
      let here : r ≡ cond (test s i) 1 0 = q ∙ ap (λ (b : Bool). cond b 1 0) (ap (λ (x : State). test x i) e ∙ tested_before s i) in
      omega (arith, count_passes (test s) n i l)

-- what a function shows that tests a row and takes the step there
module _ (test : State → ℕ → Bool) (step : State → ℕ → State) (s : State) (i : ℕ) {b : Bool} (e : b ≡ test s i) where
  pub step_taken : {t : State} → b ≡ true → t ≡ step s i → t ≡ tried test step s i
  step_taken h q = rw (sym e ∙ h) q

  pub step_left : b ≡ false → s ≡ tried test step s i
  step_left h = rw (sym e ∙ h)
