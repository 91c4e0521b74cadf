-- The order in which pairs settle is strict: of two used rows one comes before the other, since their numbers differ.
-- Assumes nothing.
use mathlib.Core.Path.{◌≡◌, sym}
use mathlib.Core.Bool.{true, false, ◌&&◌, or-true}
use mathlib.Core.Logic.{◌⊎◌, inl, inr, ⊎_elim}
use Prim.Native.Nat.{ℕ, ◌<◌}
use native.Mathlib.Nat.{eq-or-lt_of_le}
use native.Mathlib.Omega.{arith}
use lib.Dec.{eqb, ltb}
use borrow.Author.Tests.{eqb-true, eqb-false, eq-eqb, ltb-true, ltb-false, lt-ltb, not-true}
use Rattle.laws.proofs.Cases.{either, clash, and_left, and_right, or_cases}
use Rattle.laws.proofs.Lists.{Differ, Before}
use Rattle.book.specs.Layout.{numbers, settlements}
use Rattle.book.specs.State.{State}
use Rattle.facts.proofs.Truth.{below}
use Rattle.facts.specs.Good.{Good}
use Rattle.rules.specs.ByRow.{differs}
use Rattle.rules.specs.Requests.{is_used}
use Rattle.rules.specs.Settlement.{settles_before}

-- two numbers compared
compared : (x y : ℕ) → (x < y) ⊎ ((x ≡ y) ⊎ (y < x))
compared x y = ⊎_elim (λ l. inl (ltb-true x y l)) (λ l. inr (⊎_elim (λ e. inl (sym e)) (λ m. inr m) (eq-or-lt_of_le (ltb-false x y l)))) (either (ltb x y))

-- the order as facts, and back
abbrev pub Earlier : State → ℕ → ℕ → Type 0
Earlier s i j = (s settlements i < s settlements j) ⊎ ((s settlements i ≡ s settlements j) × (s numbers i < s numbers j))

-- the rows to be put in order
abbrev pub Numbered : State → ℕ → Type 0
Numbered s i = (i < 256) × (is_used s i ≡ true)

module _ (s : State) where
  pub before_earlier : (i j : ℕ) → Before (settles_before s) i j → Earlier s i j
  unfolding settles_before
  before_earlier i j h =
      let same = eqb (s settlements i) (s settlements j) in
      let less = ltb (s numbers i) (s numbers j) in
      ⊎_elim
      (λ a. inl (ltb-true (s settlements i) (s settlements j) a))
      (λ a. inr (eqb-true (s settlements i) (s settlements j) (and_left same less a), ltb-true (s numbers i) (s numbers j) (and_right same less a)))
      (or_cases (ltb (s settlements i) (s settlements j)) (same && less) h)

  earlier_before : (i j : ℕ) → Earlier s i j → Before (settles_before s) i j
  unfolding settles_before
  earlier_before i j (inl a) = rw (lt-ltb (s settlements i) (s settlements j) a)
  earlier_before i j (inr a) = rw (eq-eqb (s settlements i) (s settlements j) a.0, lt-ltb (s numbers i) (s numbers j) a.1, or-true)

  pub through : (i j k : ℕ) → Before (settles_before s) i j → Before (settles_before s) j k → Before (settles_before s) i k
  through i j k a b =
      earlier_before i k
      (⊎_elim
      (λ p. ⊎_elim (λ q. inl (omega arith)) (λ q. inl (omega arith)) (before_earlier j k b))
      (λ p. ⊎_elim (λ q. inl (omega arith)) (λ q. inr (omega arith, omega arith)) (before_earlier j k b))
      (before_earlier i j a))

  pub not_itself : (i : ℕ) → Before (settles_before s) i i → ⊥
  not_itself i h = ⊎_elim (λ a. omega arith) (λ a. omega arith) (before_earlier i i h)

  module _ (g : Good s) where
    -- "request numbers are distinct"
    lower_differs : (i j : ℕ) → Numbered s i → j < i → s numbers i ≡ s numbers j → ⊥
    lower_differs i j n l =
        let some : eqb (s numbers i) 0 ≡ false = not-true (eqb (s numbers i) 0) n.1 in
        eqb-false (s numbers i) (s numbers j) (not-true (eqb (s numbers i) (s numbers j)) (below (differs s i) i (rw some at (g.facts.number i n.0)) j l))

    numbers_differ : (i j : ℕ) → Numbered s i → Numbered s j → Differ i j → s numbers i ≡ s numbers j → ⊥
    numbers_differ i j n m d e = ⊎_elim (λ l. lower_differs j i m l (sym e)) (⊎_elim (λ q. d q) (λ l. lower_differs i j n l e)) (compared i j)

    one_earlier : (i j : ℕ) → Numbered s i → Numbered s j → Differ i j → Earlier s i j ⊎ Earlier s j i
    one_earlier i j n m d =
        ⊎_elim
        (λ l. inl (inl l))
        (⊎_elim
        (λ e. ⊎_elim (λ l. inl (inr (e, l))) (⊎_elim (λ q. absurd (numbers_differ i j n m d q)) (λ l. inr (inr (sym e, l)))) (compared (s numbers i) (s numbers j)))
        (λ l. inr (inl l)))
        (compared (s settlements i) (s settlements j))

    pub strict : (i j : ℕ) → Numbered s i → Numbered s j → Differ i j → settles_before s i j ≡ false → Before (settles_before s) j i
    strict i j n m d h = ⊎_elim (λ a. clash (earlier_before i j a) h) (λ a. earlier_before j i a) (one_earlier i j n m d)
