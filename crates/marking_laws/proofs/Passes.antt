-- A pass over the exposures: each step touches its own exposure's position, so that the others find theirs as it was before the pass.
-- Assumes nothing.
use mathlib.Core.Path.{◌≡◌, refl, sym, ◌∙◌}
use mathlib.Core.Logic.{⊎_elim}
use Prim.Native.Nat.{ℕ, zero, suc, ◌+◌, ◌*◌, ◌≤◌, ◌<◌}
use native.Mathlib.Nat.{le_refl, eq-or-lt_of_le, le_of_suc-le-suc}
use native.Mathlib.Numerals.{add-one}
use native.Mathlib.Omega.{arith}
use lib.Dec.{eqb}
use borrow.Author.Tests.{eqb-true}
use Rattle.laws.proofs.Cases.{either}
use Rattle.book.specs.Layout.{in_use, positions}
use Rattle.book.specs.State.{State}
use Rattle.rules.specs.Marking.{on_exposures, moved}
use Rattle.marking_laws.specs.Pass.{on_used}
use Rattle.marking_laws.proofs.Moved.{Bonds, Own, bonds_none, bonds_then, own_none, Alike, own_other, moved_same, NoMore}

-- a step that touches the position of its own exposure alone
abbrev pub Local : (State → ℕ → State) → Type 0
Local step = (s : State) (e : ℕ) → Own e s (step s e)

module _ (step : State → ℕ → State) where
  -- what holds after the step where the exposure is used, and before it where it is not
  pub used_cases : (P : State → Type 0) (s : State) (e : ℕ) → (s in_use e ≡ 1 → P (step s e)) → P s → P (on_used step s e)
  used_cases P s e used idle = ⊎_elim (λ q. rw q (used (eqb-true (s in_use e) 1 q))) (λ q. rw q idle) (either (eqb (s in_use e) 1))

  pub own_used : Local step → (s : State) (e : ℕ) → Own e s (on_used step s e)
  own_used local s e = used_cases (Own e s) s e (λ u. local s e) (own_none e s)

  -- one exposure more
  on_suc : (e : ℕ) (s : State) → on_exposures step (suc e) s ≡ on_used step (on_exposures step e s) e
  unfolding on_exposures
  on_suc e s = refl

  pub on_next : (e : ℕ) (s : State) → on_exposures step (e + 1) s ≡ on_used step (on_exposures step e s) e
  on_next e s = rw add-one (on_suc e s)

  pub on_none : (s : State) → on_exposures step 0 s ≡ s
  unfolding on_exposures
  on_none s = refl

  -- whatever each step keeps, the pass keeps
  pub pass_keeps : (P : State → Type 0) → ((t : State) (e : ℕ) → e < 64 → t in_use e ≡ 1 → P t → P (step t e)) → (s : State) (n : ℕ) → n ≤ 64 → P s → P (on_exposures step n s)
  unfolding on_exposures
  pass_keeps P keep s zero h p = p
  pass_keeps P keep s (suc e) h p =
      let before = pass_keeps P keep s e (omega arith) p in
      used_cases P (on_exposures step e s) e (λ u. keep (on_exposures step e s) e h u before) before

  module _ (local : Local step) (s : State) where
    pub pass_bonds : (n : ℕ) → Bonds s (on_exposures step n s)
    unfolding on_exposures
    pass_bonds zero = bonds_none s
    pass_bonds (suc e) = bonds_then (pass_bonds e) (own_used local (on_exposures step e s) e).bonds

    -- a position that the pass has not reached yet
    pub pass_later : (n e : ℕ) → n ≤ e → Alike (on_exposures step n s) s e
    unfolding on_exposures
    pass_later zero e h i l = refl
    pass_later (suc n) e h i l = own_other (own_used local (on_exposures step n s) n) e (λ q. omega arith) i l ∙ pass_later n e (omega arith) i l

    -- and one that it has passed: its own step's doing
    pub pass_row : (n e : ℕ) → e < n → Alike (on_exposures step n s) (on_used step (on_exposures step e s) e) e
    pass_row zero e h i l = absurd (omega arith)
    pass_row (suc n) e h i l =
        let before = pass_row n e in
        ⊎_elim
        (λ (q : e ≡ n). rw (on_suc n s, q))
        (λ (m : e < n). rw (on_suc n s) (own_other (own_used local (on_exposures step n s) n) e (λ q. omega arith) i l) ∙ before m i l)
        (eq-or-lt_of_le (le_of_suc-le-suc h))

    pub pass_moved : (n e : ℕ) → e < n → moved s (on_exposures step n s) e ≡ moved (on_exposures step e s) (on_used step (on_exposures step e s) e) e
    pass_moved n e h =
        let t = on_exposures step e s in
        moved_same s (on_exposures step n s) t (on_used step t e) e (λ i l. sym (pass_later e e (le_refl e) i l)) (pass_row n e h)

    -- steps that only lower their position
    pub pass_lower : ((t : State) (e : ℕ) → NoMore t (step t e) e) → (n e : ℕ) → e < n → NoMore s (on_exposures step n s) e
    pass_lower low n e h i l =
        let t = on_exposures step e s in
        let own : NoMore t (on_used step t e) e = used_cases (λ (u : State). NoMore t u e) t e (λ u. low t e) (λ i l. le_refl (t positions (64 * e + i))) in
        omega (arith, pass_row n e h i l, pass_later e e (le_refl e) i l, own i l)
