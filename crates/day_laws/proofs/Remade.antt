-- Rows made anew: steps that change their own row alone, in some tables, and what their turns leave.
-- Assumes nothing.
use mathlib.Core.Path.{◌≡◌, refl, sym, fun_ext, ◌∙◌}
use mathlib.Core.Bool.{Bool, true, false, ◌&&◌, ◌||◌, cond}
use mathlib.Core.List.{List, [], ◌∷◌}
use mathlib.Core.Logic.{⊎_elim}
use Prim.Native.Nat.{ℕ, ◌^◌, ◌≤◌, ◌<◌}
use native.Mathlib.Decide.{dec_lt}
use native.Mathlib.Nat.{one-le-pow, le_refl}
use native.Mathlib.Omega.{arith}
use lib.Dec.{eqb, ltb}
use borrow.Author.Tests.{eqb-true, eq-eqb, ne_eqb, lt-ltb, le-ltb}
use Rattle.laws.proofs.Cases.{either}
use Rattle.book.specs.Layout.{rows_of, width_of, table_count}
use Rattle.book.specs.State.{State, put}
use Rattle.book.specs.Fits.{Fits}
use Rattle.book.proofs.Images.{put_fits}
use Rattle.rules.specs.DayChange.{on_each}
use Rattle.day_laws.proofs.Each.{place_ahead, place_passed}

-- the state with some tables made anew in the rows that are done, out of the row as it was
abbrev pub remade : (ℕ → Bool) → ((ℕ → ℕ) → ℕ → ℕ) → (ℕ → Bool) → State → State
remade tables new done s f i = cond (tables f) (cond (done i) (new (λ g. s g i) f) (s f i)) (s f i)

-- a row that is not done is as it was
pub remade_not : (tables : ℕ → Bool) (new : (ℕ → ℕ) → ℕ → ℕ) (done : ℕ → Bool) (s : State) (f i : ℕ) → done i ≡ false → remade tables new done s f i ≡ s f i
remade_not tables new done s f i e = ⊎_elim (λ (m : tables f ≡ true). rw (m, e)) (λ (m : tables f ≡ false). rw m) (either (tables f))

-- tables cleared in the rows that are done: the numbers fit their bytes
pub cleared_fits : (tables done : ℕ → Bool) (s : State) → Fits s → Fits (remade tables (λ row f. 0) done s)
cleared_fits tables done s fit =
    record {
      fits = λ f i l. either_holds (λ (x : ℕ). x < 256 ^ width_of f) f i (one-le-pow (width_of f) 256 (omega arith)) (fit.fits f i l);
      blank = λ f i l. either_holds (λ (x : ℕ). x ≡ 0) f i refl (fit.blank f i l);
    }
  where
    either_holds : (P : ℕ → Type 0) (f i : ℕ) → P 0 → P (s f i) → P (remade tables (λ row f. 0) done s f i)
    either_holds P f i z p =
        ⊎_elim
        (λ (m : tables f ≡ true). ⊎_elim (λ (e : done i ≡ true). rw (m, e) z) (λ (e : done i ≡ false). rw (m, e) p) (either (done i)))
        (λ (m : tables f ≡ false). rw m p)
        (either (tables f))

-- a number of a list of tables
abbrev pub among : List ℕ → ℕ → Bool
among [] g = false
among (f ∷ fs) g = eqb g f || among fs g

-- numbers stored into a row of some tables, one after the other
abbrev pub stored : State → List ℕ → (ℕ → ℕ) → ℕ → State
stored t [] new i = t
stored t (f ∷ fs) new i = stored (put t f i (new f)) fs new i

stored_at : (fs : List ℕ) (new : ℕ → ℕ) (t : State) (i g j : ℕ) → stored t fs new i g j ≡ cond (among fs g) (cond (eqb j i) (new g) (t g j)) (t g j)
stored_at [] new t i g j = refl
stored_at (f ∷ fs) new t i g j =
    stored_at fs new (put t f i (new f)) i g j
    ∙ ⊎_elim (λ (e : eqb g f ≡ true). rw (e, eqb-true g f e) (either_way (new f) (t f j) (among fs f) (eqb j i))) (λ (e : eqb g f ≡ false). rw e) (either (eqb g f))
  where
    either_way : (x y : ℕ) (a b : Bool) → cond a (cond b x (cond b x y)) (cond b x y) ≡ cond b x y
    either_way x y true true = refl
    either_way x y true false = refl
    either_way x y false b = refl

pub stored_row : (new : (ℕ → ℕ) → ℕ → ℕ) (fs : List ℕ) (t : State) (i g j : ℕ) → stored t fs (new (λ h. t h i)) i g j ≡ remade (among fs) new (λ k. eqb k i) t g j
stored_row new fs t i g j =
    stored_at fs (new (λ h. t h i)) t i g j
    ∙ ⊎_elim (λ (d : eqb j i ≡ true). rw (d, eqb-true j i d)) (λ (d : eqb j i ≡ false). rw d) (either (eqb j i))

-- numbers that fit the tables that they are stored into
abbrev pub Storable : List ℕ → (ℕ → ℕ) → ℕ → Type 0
Storable [] new i = 0 ≤ i
Storable (f ∷ fs) new i = ((f < table_count) × (i < rows_of f) × (new f < 256 ^ width_of f)) × Storable fs new i

pub stored_fits : (fs : List ℕ) (new : ℕ → ℕ) (t : State) (i : ℕ) → Fits t → Storable fs new i → Fits (stored t fs new i)
stored_fits [] new t i fit h = fit
stored_fits (f ∷ fs) new t i fit h = stored_fits fs new (put t f i (new f)) i (put_fits t f i (new f) fit h.0.0 h.0.1 h.0.2) h.1

-- the numbers whose turn has been, among those that pass
abbrev pub passed : (ℕ → Bool) → ℕ → ℕ → Bool
passed test n i = ltb i n && test i

-- a step that makes its own row of some tables anew: after n turns the rows passed are made anew, each out of the row at the start
module _ (tables : ℕ → Bool) (new : (ℕ → ℕ) → ℕ → ℕ) (test : ℕ → Bool) (step : State → ℕ → State)
    (own : (t : State) (i f j : ℕ) → step t i f j ≡ remade tables new (λ k. eqb k i) t f j) (s : State) where
  only_own : (f i : ℕ) (t : State) (j : ℕ) → (i ≡ j → ⊥) → step t j f i ≡ t f i
  only_own f i t j d = own t j f i ∙ remade_not tables new (λ k. eqb k j) t f i (ne_eqb i j d)

  -- the rows to come are as they were
  row_ahead : (n f i : ℕ) → n ≤ i → on_each test step n s f i ≡ s f i
  row_ahead n f i l = place_ahead test step s (λ t. t f i) i (only_own f i) n l

  row_passed : (n f i : ℕ) → i < n → on_each test step n s f i ≡ remade tables new test s f i
  row_passed n f i l =
      let before : (g : ℕ) → on_each test step i s g i ≡ s g i = λ g. row_ahead i g i (le_refl i) in
      place_passed test step s (λ t. t f i) i (only_own f i) n l
      ∙ ⊎_elim
      (λ (e : test i ≡ true). rw (own (on_each test step i s) i f i, eq-eqb i i refl, fun_ext before, before f, e))
      (λ (e : test i ≡ false). rw e (sym (remade_not tables new (λ k. false) s f i refl)))
      (either (test i))

  row_turned : (n f i : ℕ) → on_each test step n s f i ≡ remade tables new (passed test n) s f i
  row_turned n f i =
      elim (dec_lt i n) [
        | yes l ↦ rw (lt-ltb i n l) (row_passed n f i l)
        | no l ↦ let b : n ≤ i = omega arith in row_ahead n f i b ∙ sym (remade_not tables new (passed test n) s f i (rw (le-ltb i n b)))
      ]

  pub turns_remade : (n : ℕ) → on_each test step n s ≡ remade tables new (passed test n) s
  turns_remade n = fun_ext (λ f. fun_ext (λ i. row_turned n f i))
