-- A price is the younger the later its quote; the first fresh day of each greatest age, found day by day backwards from today.
-- Assumes nothing.
use mathlib.Core.Path.{◌≡◌, refl, sym, ◌∙◌}
use mathlib.Core.Bool.{true, false}
use mathlib.Core.List.{List}
use mathlib.Core.Logic.{⊎_elim}
use Prim.Native.Nat.{ℕ, zero, suc, ◌+◌, ◌-◌, ◌≤◌, ◌<◌}
use native.Mathlib.Decide.{le_ind, dec_le}
use native.Mathlib.Nat.{le_refl, eq-or-lt_of_le, le_of_suc-le-suc, lt_of_not-le}
use native.Mathlib.Numerals.{add-one}
use native.Mathlib.Omega.{arith}
use lib.Dec.{leb, leb-zero}
use lib.ListN.{length, get_or, set, replicate}
use lib.Seq.{get_or-set_same, get_or-set_other}
use borrow.Author.Tests.{le-leb, lt-leb}
use Rattle.laws.proofs.Cases.{either}
use Rattle.laws.proofs.Least.{count_here, count_on, count_end}
use Rattle.calendar.specs.Fresh.{FreshDays}
use Rattle.calendar.specs.Target.{open_day, age}

-- a price of today, or of a later day, has no age
pub age_none : (d today : ℕ) → today ≤ d → age d today ≡ 0
unfolding age
age_none d today h = let e : today - d ≡ today + 1 - (d + 1) = omega arith in rw e (count_end open_day (today + 1) (d + 1) (omega arith))

-- one day earlier: one open day more, or none
module _ (p d today : ℕ) (n : d ≡ p + 1) (h : d ≤ today) where
  from_here : today - p ≡ today + 1 - d
  from_here = omega arith

  from_next : today + 1 - (d + 1) ≡ today - d
  from_next = omega arith

  pub age_open : open_day d ≡ true → age p today ≡ 1 + age d today
  unfolding age
  age_open e = rw (from_here, ← n, ← from_next) (count_here open_day (today + 1) d (omega arith) e)

  pub age_shut : open_day d ≡ false → age p today ≡ age d today
  unfolding age
  age_shut e = rw (from_here, ← n, ← from_next) (count_on open_day (today + 1) d (omega arith) e)

-- a later quote is no older
age_next : (d today : ℕ) → age (suc d) today ≤ age d today
age_next d today = elim (dec_le (suc d) today) [
  | yes h ↦
      let one = sym (add-one d) in
      ⊎_elim
      (λ e. omega (arith, age_open d (suc d) today one h e))
      (λ e. omega (arith, age_shut d (suc d) today one h e))
      (either (open_day (suc d)))
  | no n ↦ omega (arith, age_none (suc d) today (omega (arith, lt_of_not-le n)))
]

pub age_falls : (d e today : ℕ) → d ≤ e → age e today ≤ age d today
age_falls d e today h = le_ind (λ (m : ℕ). age m today ≤ age d today) (le_refl (age d today)) (λ m k p. omega (arith, p, age_next m today)) e h

zeros : (n g : ℕ) → ◌≡◌ {A = ℕ} (get_or (replicate n 0) g 0) 0
zeros zero g = refl
zeros (suc n) zero = refl
zeros (suc n) (suc g) = zeros n g

-- the days before `day` are left: the ages below a = age of `day` have their first fresh day, the others none yet
pub record Walked (today day a : ℕ) (days : List ℕ) : Type 0 where
  pub within : day ≤ today
  pub reached : a ≡ age day today
  pub known : (g quote : ℕ) → g < a → leb (age quote today) g ≡ leb (get_or days g 0) quote
  pub unset : (g : ℕ) → a ≤ g → get_or days g 0 ≡ 0

pub walked_starts : (today n : ℕ) → Walked today today 0 (replicate n 0)
walked_starts today n = record {
  within = le_refl today;
  reached = sym (age_none today today (le_refl today));
  known = λ g quote l. absurd (omega arith);
  unset = λ g l. zeros n g;
}

module _ {today day a : ℕ} {days : List ℕ} (w : Walked today day a days) where
  same : 0 < day → day - 1 + 1 ≡ day
  same l = omega arith

  -- a closed day changes nothing
  pub walked_shut : 0 < day → open_day (day - 1 + 1) ≡ false → Walked today (day - 1) a days
  walked_shut l e = record {
    within = omega (arith, w.within);
    reached = w.reached ∙ sym (age_shut (day - 1) day today (omega arith) w.within (rw (same l) at e));
    known = w.known;
    unset = w.unset;
  }

  -- an open day is the first fresh one for its prices' age
  here : 0 < day → open_day day ≡ true → (quote : ℕ) → leb (age quote today) a ≡ leb day quote
  here l e quote = elim (dec_le day quote) [
    | yes h ↦ le-leb (age quote today) a (omega (arith, w.reached, age_falls day quote today h)) ∙ sym (le-leb day quote h)
    | no n ↦
        let earlier : quote ≤ day - 1 = omega (arith, lt_of_not-le n) in
        lt-leb (age quote today) a (omega (arith, w.reached, age_falls quote (day - 1) today earlier, age_open (day - 1) day today (omega arith) w.within e)) ∙ sym (lt-leb day quote (lt_of_not-le n))
  ]

  opened : 0 < day → a < length days → open_day day ≡ true → Walked today (day - 1) (a + 1) (set days a day)
  opened l m e = record {
    within = omega (arith, w.within);
    reached = omega (arith, w.reached, age_open (day - 1) day today (omega arith) w.within e);
    known = λ g quote h. ⊎_elim
        (λ (q : g ≡ a). rw (q, get_or-set_same days a day 0 m) (here l e quote))
        (λ (b : g < a). rw (get_or-set_other days a g day 0 (λ (q : g ≡ a). omega arith)) (w.known g quote b))
        (eq-or-lt_of_le (le_of_suc-le-suc (omega arith)));
    unset = λ g h. rw (get_or-set_other days a g day 0 (λ (q : g ≡ a). omega arith)) (w.unset g (omega arith));
  }

  pub walked_open : 0 < day → a < length days → open_day (day - 1 + 1) ≡ true → Walked today (day - 1) (a + 1) (set days a (day - 1 + 1))
  walked_open l m e = rw (same l) (opened l m (rw (same l) at e))

  -- no day is left: what has no day yet takes all prices
  pub walked_all : (from most : ℕ) → day ≤ from → FreshDays from today most days
  walked_all from most h = record {
    right = λ g quote l m. elim (dec_le a g) [
      | yes k ↦ le-leb (age quote today) g (omega (arith, w.reached, age_falls day quote today (omega arith))) ∙ rw (w.unset g k) (sym (leb-zero quote))
      | no n ↦ w.known g quote (lt_of_not-le n)
    ];
  }

  -- all ages have their day
  pub walked_most : (from most : ℕ) → most < a → FreshDays from today most days
  walked_most from most h = record { right = λ g quote l m. w.known g quote (omega arith) }
