-- What a raise and a lowering change: the 64 numbers, and nothing else; and that they keep numbers within their bytes.
-- Assumes nothing.
use mathlib.Core.Path.{◌≡◌, refl, ap, ◌∙◌}
use mathlib.Core.Bool.{◌&&◌, cond}
use mathlib.Core.List.{List}
use Prim.Native.Nat.{ℕ, ◌+◌, ◌-◌, ◌^◌, ◌≤◌, ◌<◌}
use native.Mathlib.Decide.{ℕ_discrete, dec_le, dec_lt}
use native.Mathlib.Omega.{arith}
use borrow.Author.Tests.{eq-eqb, ne_eqb, le-leb, lt-leb, lt-ltb, le-ltb}
use lib.Dec.{eqb}
use lib.ListN.{get_or}
use Rattle.book.specs.Layout.{rows_of, width_of}
use Rattle.book.specs.State.{State, within, raised, lowered}
use Rattle.book.specs.Fits.{Raisable, Fits}

-- is a number one of the 64?
pub among : (f start g j : ℕ) → Dec ((g ≡ f) × (start ≤ j) × (j < start + 64))
among f start g j = pick (ℕ_discrete g f) (dec_le start j) (dec_lt j (start + 64))
  where
    pick : Dec (g ≡ f) → Dec (start ≤ j) → Dec (j < start + 64) → Dec ((g ≡ f) × (start ≤ j) × (j < start + 64))
    pick (yes e) (yes h) (yes l) = yes (e, h, l)
    pick (yes e) (yes h) (no l) = no (λ t. l t.2)
    pick (yes e) (no h) d = no (λ t. h t.1)
    pick (no e) d t = no (λ t. e t.0)

-- the state with each of 64 numbers changed by the number of a list
abbrev pub moved : (ℕ → ℕ → ℕ) → State → ℕ → ℕ → List ℕ → State
moved change s f start by g j = cond (eqb g f && within start j) (change (s g j) (get_or by (j - start) 0)) (s g j)

module _ (change : ℕ → ℕ → ℕ) (s : State) (f start : ℕ) (by : List ℕ) where
  pub moved_in : (g j : ℕ) → g ≡ f → start ≤ j → j < start + 64 → moved change s f start by g j ≡ change (s g j) (get_or by (j - start) 0)
  moved_in g j e h l = rw (eq-eqb g f e, le-leb start j h, lt-ltb j (start + 64) l)

  out : (g j : ℕ) → (g ≡ f → start ≤ j → j < start + 64 → ⊥) → Dec (g ≡ f) → Dec (start ≤ j) → Dec (j < start + 64) → moved change s f start by g j ≡ s g j
  out g j apart (yes e) (yes h) (yes l) = absurd (apart e h l)
  out g j apart (yes e) (yes h) (no l) = rw (eq-eqb g f e, le-leb start j h, le-ltb j (start + 64) (omega arith))
  out g j apart (yes e) (no h) d = rw (eq-eqb g f e, lt-leb start j (omega arith))
  out g j apart (no e) d t = rw (ne_eqb g f e)

  pub moved_out : (g j : ℕ) → (g ≡ f → start ≤ j → j < start + 64 → ⊥) → moved change s f start by g j ≡ s g j
  moved_out g j apart = out g j apart (ℕ_discrete g f) (dec_le start j) (dec_lt j (start + 64))

  -- whatever holds of the changed numbers where they stand, and of all the others, holds of each
  pub moved_cases : (P : ℕ → Type 0) (g j : ℕ) → (g ≡ f → start ≤ j → j < start + 64 → P (change (s g j) (get_or by (j - start) 0))) → P (s g j) → P (moved change s f start by g j)
  moved_cases P g j these others =
      elim (among f start g j) [
        | yes t ↦ rw (moved_in g j t.0 t.1 t.2) (these t.0 t.1 t.2)
        | no n ↦ rw (moved_out g j (λ e h l. n (e, h, l))) others
      ]

  moved_fits : Fits s → width_of f ≡ 4 → start + 64 ≤ rows_of f → ((j : ℕ) → start ≤ j → j < start + 64 → change (s f j) (get_or by (j - start) 0) < 4294967296) → Fits (moved change s f start by)
  moved_fits fit width rows small =
      record {
        fits = λ g j h. moved_cases (λ (y : ℕ). y < 256 ^ width_of g) g j (λ e a b. rw (e, width) (small j a b)) (fit.fits g j h);
        blank = λ g j h. moved_cases (λ (y : ℕ). y ≡ 0) g j (λ e a b. absurd (let l : rows_of f ≤ j = rw e at h in omega arith)) (fit.blank g j h);
      }

module _ (s : State) (f start : ℕ) (by : List ℕ) where
  -- one of the 64 numbers
  pub raised_at : (i : ℕ) → i < 64 → raised s f start by f (start + i) ≡ s f (start + i) + get_or by i 0
  raised_at i h = let e : start + i - start ≡ i = omega arith in moved_in ◌+◌ s f start by f (start + i) refl (omega arith) (omega arith) ∙ ap (λ (n : ℕ). s f (start + i) + get_or by n 0) e

  pub lowered_at : (i : ℕ) → i < 64 → lowered s f start by f (start + i) ≡ s f (start + i) - get_or by i 0
  lowered_at i h = let e : start + i - start ≡ i = omega arith in moved_in ◌-◌ s f start by f (start + i) refl (omega arith) (omega arith) ∙ ap (λ (n : ℕ). s f (start + i) - get_or by n 0) e

  -- any other number
  pub raised_other : (g j : ℕ) → (g ≡ f → start ≤ j → j < start + 64 → ⊥) → raised s f start by g j ≡ s g j
  raised_other g j apart = moved_out ◌+◌ s f start by g j apart

  pub lowered_other : (g j : ℕ) → (g ≡ f → start ≤ j → j < start + 64 → ⊥) → lowered s f start by g j ≡ s g j
  lowered_other g j apart = moved_out ◌-◌ s f start by g j apart

  pub raised_fits : Fits s → width_of f ≡ 4 → start + 64 ≤ rows_of f → Raisable s f start by → Fits (raised s f start by)
  raised_fits fit width rows r =
      moved_fits ◌+◌ s f start by fit width rows (λ j h l. let e : start + (j - start) ≡ j = omega arith in rw e at (r.room (j - start) (omega arith)))

  pub lowered_fits : Fits s → width_of f ≡ 4 → start + 64 ≤ rows_of f → Fits (lowered s f start by)
  lowered_fits fit width rows =
      moved_fits ◌-◌ s f start by fit width rows (λ j h l. let m : s f j < 4294967296 = rw width at (fit.fits f j (omega arith)) in omega arith)
