-- Several numbers of a row in one, and the terms of two rows compared so.
-- Assumes nothing.
use mathlib.Core.Path.{◌≡◌, sym, ap, ◌∙◌}
use mathlib.Core.Bool.{Bool}
use Prim.Native.Nat.{ℕ, zero, suc, ◌+◌, ◌≤◌}
use native.Mathlib.Decide.{ℕ_discrete}
use native.Mathlib.Omega.{arith}
use lib.Bits.{bit_or, bit_xor, or_zero_l, xor_add_and, xor_self, and_le_l, and_le_r}
use lib.Dec.{eqb}
use borrow.Author.Tests.{eq-eqb, eqb-true}
use Rattle.laws.proofs.Least.{all_at, all_same}
use Rattle.book.specs.Layout.{givers, takers, baskets_or_exposures, amounts, settlements, closings, term_tables}
use Rattle.book.specs.State.{State, rows_alike}
use Rattle.book.proofs.Tables.{every_from}
use Rattle.rules.specs.ByRow.{same}
use Rattle.facts.proofs.Truth.{all_of, agree}
use Rattle.laws.specs.Search.{all}
use Rattle.row_tests.proofs.Empty.{or_left, or_right}
use Rattle.sound_fields.specs.Rows.{Reads}
use Rattle.sound_fields.specs.declared.Request as declared

-- the rows i of the tables from one to n more, in one number: it is 0 where each is
abbrev together : State → ℕ → ℕ → ℕ → ℕ
together s i from zero = s from i
together s i from (suc n) = bit_or (together s i from n) (s (from + suc n) i)

module _ (s : State) (i from : ℕ) where
  each_none : (n : ℕ) → together s i from n ≡ 0 → (f : ℕ) → from ≤ f → f ≤ from + n → s f i ≡ 0
  each_none zero h f a b = let e : f ≡ from = omega arith in rw e h
  each_none (suc n) h f a b = elim (ℕ_discrete f (from + suc n)) [
    | yes q ↦ rw q (or_right (together s i from n) (s (from + suc n) i) h)
    | no q ↦ each_none n (or_left (together s i from n) (s (from + suc n) i) h) f a (omega arith)
  ]

  none_each : (n : ℕ) → ((f : ℕ) → from ≤ f → f ≤ from + n → s f i ≡ 0) → together s i from n ≡ 0
  none_each zero h = h from (omega arith) (omega arith)
  none_each (suc n) h = rw (none_each n (λ f a b. h f a (omega arith)), or_zero_l) (h (from + suc n) (omega arith) (omega arith))

  together_blank : (n : ℕ) → eqb (together s i from n) 0 ≡ all (λ f. eqb (s f i) 0) (suc n) from
  together_blank n =
      let t : ℕ → Bool = λ f. eqb (s f i) 0 in
      agree
      (λ p. all_of t (suc n) from (λ f a b. eq-eqb (s f i) 0 (each_none n (eqb-true (together s i from n) 0 p) f a (omega arith))))
      (λ p. eq-eqb (together s i from n) 0 (none_each n (λ f a b. eqb-true (s f i) 0 (all_at t (suc n) from p f a (omega arith)))))

both : {a b c d : ℕ} → a ≡ c → b ≡ d → bit_or a b ≡ bit_or c d
both p e = rw (p, e)

bits : {a b c d : ℕ} → a ≡ c → b ≡ d → bit_xor a b ≡ bit_xor c d
bits p e = rw (p, e)

-- two numbers are equal where they have no bit that differs
same_bits : (x y : ℕ) → eqb (bit_xor x y) 0 ≡ eqb x y
same_bits x y = agree
    (λ p. eq-eqb x y (omega (arith, eqb-true (bit_xor x y) 0 p, xor_add_and x y, and_le_l x y, and_le_r x y)))
    (λ p. rw (eqb-true x y p, xor_self))

pub by_terms : (s : State) (q : declared.Request) (j : ℕ) {g t o a d c : ℕ} → Reads s q → g ≡ s givers j → t ≡ s takers j → o ≡ s baskets_or_exposures j → a ≡ s amounts j → d ≡ s settlements j → c ≡ s closings j
    → eqb (bit_or (bit_or (bit_or (bit_or (bit_or (bit_xor q.giver g) (bit_xor q.taker t)) (bit_xor q.object o)) (bit_xor q.amount a)) (bit_xor q.settlement d)) (bit_xor q.closing c)) 0 ≡ rows_alike s term_tables q.row j
by_terms s q j r gq tq oq aq dq cq =
    let u : State = λ f i. bit_xor (s f q.row) (s f j) in
    ap (λ (x : ℕ). eqb x 0) (both (both (both (both (both (bits r.giver gq) (bits r.taker tq)) (bits r.object oq)) (bits r.amount aq)) (bits r.settlement dq)) (bits r.closing cq))
    ∙ together_blank u 0 givers 5
    ∙ all_same (λ f. eqb (u f 0) 0) (λ f. same s f q.row j) 6 givers (λ f a l. same_bits (s f q.row) (s f j))
    ∙ sym (every_from (λ f. same s f q.row j) 6 givers)
