-- Years and their days.
-- Assumes nothing.
use mathlib.Core.Path.{◌≡◌, refl}
use mathlib.Core.Bool.{Bool, true, false}
use mathlib.Core.Logic.{◌⊎◌, inl, inr, ⊎_elim}
use Prim.Native.Nat.{ℕ, zero, suc, ◌+◌, ◌*◌, ◌/◌, ◌%◌, ◌≤◌, ◌<◌}
use native.Mathlib.Nat.{le_refl, le_of_suc-le-suc, lt_of_not-le, eq-or-lt_of_le}
use native.Mathlib.Numerals.{add-one}
use native.Mathlib.Decide.{le_ind}
use native.Mathlib.Omega.{arith}
use lib.Dec.{eqb, leb, leb-zero}
use borrow.Author.Tests.{eqb-true, eqb-false, leb-false, lt-leb, leb-true, le-leb}
use Rattle.laws.proofs.Cases.{either}
use Rattle.laws.proofs.Largest.{Falling, between_end, largest_le, largest_holds, largest_above}
use Rattle.calendar.specs.Gregorian.{one_if, is_leap, leap_day, start_of, year_of, day_of_year}

hit4 : (y : ℕ) → (y + 1) % 4 ≡ 0 → (y + 1) / 4 ≡ y / 4 + 1
hit4 y h = omega arith

miss4 : (y : ℕ) → ((y + 1) % 4 ≡ 0 → ⊥) → (y + 1) / 4 ≡ y / 4
miss4 y h = omega arith

hit100 : (y : ℕ) → (y + 1) % 100 ≡ 0 → (y + 1) / 100 ≡ y / 100 + 1
hit100 y h = omega arith

miss100 : (y : ℕ) → ((y + 1) % 100 ≡ 0 → ⊥) → (y + 1) / 100 ≡ y / 100
miss100 y h = omega arith

hit400 : (y : ℕ) → (y + 1) % 400 ≡ 0 → (y + 1) / 400 ≡ y / 400 + 1
hit400 y h = omega arith

miss400 : (y : ℕ) → ((y + 1) % 400 ≡ 0 → ⊥) → (y + 1) / 400 ≡ y / 400
miss400 y h = omega arith

-- a year's leap day, by the counts of the years that 4, 100 and 400 divide up to it and up to the year before
leap_counts : (y : ℕ) → leap_day (y + 1) + y / 4 + y / 400 + (y + 1) / 100 ≡ (y + 1) / 4 + (y + 1) / 400 + y / 100
unfolding leap_day
leap_counts y = go (either (eqb ((y + 1) % 4) 0)) (either (eqb ((y + 1) % 100) 0)) (either (eqb ((y + 1) % 400) 0))
  where
    go : (eqb ((y + 1) % 4) 0 ≡ true) ⊎ (eqb ((y + 1) % 4) 0 ≡ false) → (eqb ((y + 1) % 100) 0 ≡ true) ⊎ (eqb ((y + 1) % 100) 0 ≡ false)
        → (eqb ((y + 1) % 400) 0 ≡ true) ⊎ (eqb ((y + 1) % 400) 0 ≡ false)
        → leap_day (y + 1) + y / 4 + y / 400 + (y + 1) / 100 ≡ (y + 1) / 4 + (y + 1) / 400 + y / 100
    go (inr p) q r =
        let n : (y + 1) % 4 ≡ 0 → ⊥ = eqb-false ((y + 1) % 4) 0 p in
        let z : leap_day (y + 1) ≡ 0 = simp p in
        rw (z, miss4 y n, miss100 y (λ h. n (omega (arith, h))), miss400 y (λ h. n (omega (arith, h)))) (omega arith)
    go (inl p) (inr q) r =
        let n : (y + 1) % 100 ≡ 0 → ⊥ = eqb-false ((y + 1) % 100) 0 q in
        let z : leap_day (y + 1) ≡ 1 = simp (p, q) in
        rw (z, hit4 y (eqb-true ((y + 1) % 4) 0 p), miss100 y n, miss400 y (λ h. n (omega (arith, h)))) (omega arith)
    go (inl p) (inl q) (inr r) =
        let z : leap_day (y + 1) ≡ 0 = simp (p, q, r) in
        rw (z, hit4 y (eqb-true ((y + 1) % 4) 0 p), hit100 y (eqb-true ((y + 1) % 100) 0 q), miss400 y (eqb-false ((y + 1) % 400) 0 r)) (omega arith)
    go (inl p) (inl q) (inl r) =
        let z : leap_day (y + 1) ≡ 1 = simp (p, q, r) in
        rw (z, hit4 y (eqb-true ((y + 1) % 4) 0 p), hit100 y (eqb-true ((y + 1) % 100) 0 q), hit400 y (eqb-true ((y + 1) % 400) 0 r)) (omega arith)

pub start_closed : (k : ℕ) → start_of k + (2001 + k) / 100 + 485 ≡ 365 * k + (2001 + k) / 4 + (2001 + k) / 400
unfolding start_of
start_closed zero = refl
start_closed (suc k) =
    let e : 2002 + k ≡ 2001 + k + 1 = omega arith in
    let f : 2001 + suc k ≡ 2001 + k + 1 = omega arith in
    rw (e, f) (omega (arith, start_closed k, leap_counts (2001 + k)))

pub leap_le : (y : ℕ) → leap_day y ≤ 1
unfolding leap_day
leap_le y = one (is_leap y)
  where
    one : (b : Bool) → one_if b ≤ 1
    one true = omega arith
    one false = omega arith

pub start_mono : (i j : ℕ) → i ≤ j → start_of i ≤ start_of j
unfolding start_of
start_mono i j h = le_ind (λ (m : ℕ). start_of i ≤ start_of m) (le_refl (start_of i)) (λ m k e. omega (arith, e)) j h

-- the days' test of a year
abbrev begun : ℕ → ℕ → Bool
begun d k = leb (start_of k) d

begun_falls : (d : ℕ) → Falling (begun d)
unfolding Falling
begun_falls d i j h e = lt-leb (start_of j) d (omega (arith, leb-false (start_of i) d e, start_mono i j h))

-- a year that has begun, whose next has not, is the day's
pub year_is : (d k : ℕ) → k ≤ 399 → start_of k ≤ d → d < start_of (k + 1) → k ≡ year_of d
unfolding year_of
year_is d k h b a =
    between_end (begun d) 399 k (k + 1) (begun_falls d)
    (record { apart = omega arith; within = omega arith; low = inr (le-leb (start_of k) d b); high = λ _. lt-leb (start_of (k + 1)) d a })
    (omega arith)

pub year_le : (d : ℕ) → year_of d ≤ 399
unfolding year_of
year_le d = largest_le (begun d) 399

pub start_end : start_of 400 ≡ 146097
start_end = omega (arith, start_closed 400)

-- a year that has begun by the last day is one of the 400
pub year_small : (d k : ℕ) → d ≤ 146096 → start_of k ≤ d → k ≤ 399
year_small d k h b = le_of_suc-le-suc (lt_of_not-le (λ (m : 400 ≤ k). omega (arith, start_end, start_mono 400 k m)))

-- by the mean length of a year no year is reached before it begins
pub quotient_begun : (d : ℕ) → start_of (400 * d / 146097) ≤ d
quotient_begun d = omega (arith, start_closed (400 * d / 146097))

-- the day is in its year
pub year_begun : (d : ℕ) → start_of (year_of d) ≤ d
unfolding year_of start_of
year_begun d = leb-true (start_of (year_of d)) d (largest_holds (begun d) 399 (leb-zero d))

pub year_ends : (d : ℕ) → d ≤ 146096 → d < start_of (year_of d + 1)
unfolding year_of
year_ends d h = ⊎_elim
    (λ (e : year_of d ≡ 399). rw e (omega (arith, start_end)))
    (λ (l : year_of d < 399). leb-false (start_of (year_of d + 1)) d (largest_above (begun d) 399 (year_of d + 1) (omega arith) (omega arith)))
    (eq-or-lt_of_le (year_le d))

pub start_next : (k : ℕ) → start_of (k + 1) ≡ start_of k + (365 + leap_day (2002 + k))
unfolding start_of
start_next k = rw add-one

pub day_le : (d : ℕ) → d ≤ 146096 → day_of_year d ≤ 366
unfolding day_of_year
day_le d h = omega (arith, year_begun d, year_ends d h, start_next (year_of d), leap_le (2002 + year_of d))
