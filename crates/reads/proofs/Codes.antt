-- The code of a read by the tests that it makes one after the other.
-- Assumes nothing.
use mathlib.Core.Path.{◌≡◌, refl, sym, ◌∙◌}
use mathlib.Core.Bool.{Bool, true, false, not, ◌&&◌, ◌||◌}
use mathlib.Core.List.{List, [], ◌∷◌}
use Prim.Native.Nat.{ℕ, suc, ◌≤◌, ◌<◌}
use native.Mathlib.Omega.{arith}
use lib.ListN.{length, replicate}
use mathlib.Core.Logic.{⊎_elim}
use lib.Dec.{eqb}
use borrow.Author.Tests.{ne_eqb, not-false}
use Rattle.std.specs.Prelude.{Result, Ok, Err, IfOk, Option, Some, None}
use Rattle.answers.specs.declared.Refusal.{Refusal}
use Rattle.answers.specs.Refusals.{number, outcome_code}
use Rattle.book.specs.State.{state}
use Rattle.rules.specs.Outcome.{rule, lowest}
use Rattle.rules.specs.Reads.{Read, request, row_of, read_rules, read_code, read_values, read_answer}
use Rattle.book.specs.Layout.{in_use, numbers}
use Rattle.rules.specs.Requests.{is_in_use, is_used}
use Rattle.rules.specs.Sound.{sound}
use Rattle.laws.proofs.Ranges.{least_le}
use Rattle.laws.specs.Filled.{filled}
use Rattle.laws.specs.Found.{found}
use Rattle.laws.proofs.Found.{found_some, found_nothing}
use Rattle.facts.proofs.Written.{sound_facts}
use Rattle.facts.proofs.Rows.{used_or_not}
use Rattle.damage.specs.Damage.{book_damage}
use Rattle.damage.proofs.Damage.{passes, damaged_code, passed_code}
use Rattle.reads.specs.Entries.{answer_by, used_rules, request_number}
use Rattle.answers.proofs.Refusals.{number_some}

-- a damaged book decides; after a sound one the read's rules do
module _ (b : List ℕ) (q : Read) where
  pub by_damage : (r : Refusal) → number r ≡ book_damage b false → number r ≡ read_code b q
  unfolding read_code
  by_damage r e = sym (damaged_code b false (lowest (read_rules (state b) q)) e (number_some r))

  pub by_rules : {x : ℕ} → 0 ≡ book_damage b false → x ≡ lowest (read_rules (state b) q) → x ≡ read_code b q
  unfolding read_code
  by_rules z e = e ∙ sym (passed_code b false (lowest (read_rules (state b) q)) (passes b false z refl))

-- 4 and 5 of a row
abbrev row_code : Bool → Bool → ℕ
row_code far used = lowest (rule far 4 ∷ rule (not used) 5 ∷ [])

pub row_far : (r : Refusal) (a u : Bool) → number r ≡ lowest (rule a 4 ∷ []) → number r ≡ row_code a u
row_far r true u e = e
row_far r false u e = absurd (number_some r e)

pub row_unused : (r : Refusal) (a u x : Bool) → 0 ≡ lowest (rule a 4 ∷ []) → u ≡ not x → number r ≡ lowest (rule x 5 ∷ []) → number r ≡ row_code a u
row_unused r true u x z h e = absurd (omega arith)
row_unused r false u true z h e = rw h e
row_unused r false u false z h e = absurd (number_some r e)

pub row_used : (a u x : Bool) → 0 ≡ lowest (rule a 4 ∷ []) → u ≡ not x → 0 ≡ lowest (rule x 5 ∷ []) → 0 ≡ row_code a u
row_used true u x z h e = absurd (omega arith)
row_used false u true z h e = absurd (omega arith)
row_used false u false z h e = rw h refl

-- and of a row with a security
abbrev nominal_code : Bool → Bool → Bool → Bool → ℕ
nominal_code a b u v = lowest (rule (a || b) 4 ∷ rule (not (u && v)) 5 ∷ [])

pub nominal_far : (r : Refusal) (a b u v : Bool) → number r ≡ lowest (rule a 4 ∷ []) → number r ≡ nominal_code a b u v
nominal_far r true b u v e = e
nominal_far r false b u v e = absurd (number_some r e)

pub security_far : (r : Refusal) (a b u v : Bool) → 0 ≡ lowest (rule a 4 ∷ []) → number r ≡ lowest (rule b 4 ∷ []) → number r ≡ nominal_code a b u v
security_far r true b u v z e = absurd (omega arith)
security_far r false true u v z e = e
security_far r false false u v z e = absurd (number_some r e)

module _ (a b u v x : Bool) (z : 0 ≡ lowest (rule a 4 ∷ [])) (w : 0 ≡ lowest (rule b 4 ∷ [])) (h : u ≡ not x) where
  pub nominal_unused : (r : Refusal) → number r ≡ lowest (rule x 5 ∷ []) → number r ≡ nominal_code a b u v
  nominal_unused r e = go a b x z w h e
    where
      go : (a b x : Bool) → 0 ≡ lowest (rule a 4 ∷ []) → 0 ≡ lowest (rule b 4 ∷ []) → u ≡ not x → number r ≡ lowest (rule x 5 ∷ []) → number r ≡ nominal_code a b u v
      go true b x z w h e = absurd (omega arith)
      go false true x z w h e = absurd (omega arith)
      go false false true z w h e = rw h e
      go false false false z w h e = absurd (number_some r e)

  pub security_unused : (r : Refusal) (y : Bool) → 0 ≡ lowest (rule x 5 ∷ []) → v ≡ not y → number r ≡ lowest (rule y 5 ∷ []) → number r ≡ nominal_code a b u v
  security_unused r y g k e = go a b x y z w h g k e
    where
      go : (a b x y : Bool) → 0 ≡ lowest (rule a 4 ∷ []) → 0 ≡ lowest (rule b 4 ∷ []) → u ≡ not x → 0 ≡ lowest (rule x 5 ∷ []) → v ≡ not y → number r ≡ lowest (rule y 5 ∷ []) → number r ≡ nominal_code a b u v
      go true b x y z w h g k e = absurd (omega arith)
      go false true x y z w h g k e = absurd (omega arith)
      go false false true y z w h g k e = absurd (omega arith)
      go false false false true z w h g k e = rw (h, k) e
      go false false false false z w h g k e = absurd (number_some r e)

  pub nominal_known : (y : Bool) → 0 ≡ lowest (rule x 5 ∷ []) → v ≡ not y → 0 ≡ lowest (rule y 5 ∷ []) → 0 ≡ nominal_code a b u v
  nominal_known y g k e = go a b x y z w h g k e
    where
      go : (a b x y : Bool) → 0 ≡ lowest (rule a 4 ∷ []) → 0 ≡ lowest (rule b 4 ∷ []) → u ≡ not x → 0 ≡ lowest (rule x 5 ∷ []) → v ≡ not y → 0 ≡ lowest (rule y 5 ∷ []) → 0 ≡ nominal_code a b u v
      go true b x y z w h g k e = absurd (omega arith)
      go false true x y z w h g k e = absurd (omega arith)
      go false false true y z w h g k e = absurd (omega arith)
      go false false false true z w h g k e = absurd (omega arith)
      go false false false false z w h g k e = rw (h, k) refl

-- the whole answer, by the outcome of the read
pub whole_answer : (b : List ℕ) (q : Read) (n : ℕ) (o : Result (List ℕ) Refusal) → length (read_values (state b) q) ≡ n
    → outcome_code o ≡ read_code b q → IfOk o (λ a. a ≡ 0 ∷ read_values (state b) q) → answer_by (suc n) o ≡ read_answer b q
unfolding read_answer
whole_answer b q n (Ok a) l c v = rw (← c) v
whole_answer b q n (Err r) l c v = refused (number r) (number_some r) l c
  where
    refused : (x : ℕ) → (x ≡ 0 → ⊥) → length (read_values (state b) q) ≡ n → x ≡ read_code b q → x ∷ replicate n 0 ≡ read_answer b q
    refused x some l c = rw (← c, l, ne_eqb x 0 some) refl

-- a test of a row, in the words of the book and the number that the read was given
pub used_at : (t : ℕ) {b g : List ℕ} {i x : ℕ} {y : ℕ} → g ≡ b → i ≡ x → y ≡ lowest (used_rules (state g) t i) → y ≡ lowest (used_rules (state b) t x)
used_at t p q e = rw (← p, ← q) e

-- an exposure row of a sound book is in use where its mark is not 0
pub in_use_known : (b : List ℕ) (e : ℕ) → 0 ≡ book_damage b false → e < 64 → is_in_use (state b) e ≡ not (eqb (state b in_use e) 0)
in_use_known b e z l =
    let s = state b in
    let whole : sound s ≡ true = not-false (sound s) (passes b false z refl).no_damage in
    ⊎_elim
    (λ (u : s in_use e ≡ 0). rw u refl)
    (λ (u : s in_use e ≡ 1). rw u refl)
    (used_or_not s e ((sound_facts s whole).exposure e l))

-- a request: its row decides
module _ (b : List ℕ) (n : ℕ) {g : List ℕ} (same : g ≡ b) {o : Option ℕ} (is : o ≡ found 256 (row_of (state g) n)) where
  row : o ≡ found 256 (row_of (state b) n)
  row = rw (← same) is

  pub request_none : 0 ≡ book_damage b false → o ≡ None → 5 ≡ read_code b (request n)
  request_none z h =
      let far : 256 ≤ row_of (state b) n = found_nothing 256 (row_of (state b) n) row h in
      let e : row_of (state b) n ≡ 256 = omega (arith, least_le (λ i. is_used (state b) i && eqb (state b numbers i) n) 256 0) in
      by_rules b (request n) z (rw e refl)

  module _ {i : ℕ} (h : o ≡ Some i) where
    near : (i ≡ row_of (state b) n) × (row_of (state b) n < 256)
    near = found_some 256 (row_of (state b) n) row h

    pub request_some : 0 ≡ book_damage b false → 0 ≡ read_code b (request n)
    request_some z = by_rules b (request n) z (rw (ne_eqb (row_of (state b) n) 256 (λ e. omega (arith, near.1))) refl)

    pub request_values : {v : List ℕ} → v ≡ filled (request_number (state g) i) 15 15 → v ≡ 0 ∷ read_values (state b) (request n)
    unfolding filled
    request_values e = e ∙ rw (same, near.0) refl
