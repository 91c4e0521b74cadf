-- Tests over a range in two parts, rows by sixteens, and sixteen rows that are not used.
-- Assumes nothing.
use mathlib.Core.Path.{◌≡◌, sym, ◌∙◌}
use mathlib.Core.Bool.{Bool, true, false, not}
use mathlib.Core.Logic.{⊎_elim}
use Prim.Native.Nat.{ℕ, zero, suc, ◌+◌, ◌*◌, ◌-◌, ◌≤◌, ◌<◌}
use native.Mathlib.Omega.{arith}
use lib.Dec.{eqb}
use borrow.Author.Tests.{eq-eqb, eqb-true, not-true, not-false}
use Rattle.laws.specs.Search.{all}
use Rattle.laws.proofs.Cases.{either, clash}
use Rattle.laws.proofs.Least.{Rest, all_at, all_hit, all_miss, all_none, all_end}
use Rattle.book.specs.Layout.{numbers, request_kinds, request_tables}
use Rattle.book.specs.State.{State}
use Rattle.book.proofs.Tables.{every_from}
use Rattle.rules.specs.Requests.{is_used}
use Rattle.rules.specs.ByRow.{sound_row}
use Rattle.facts.proofs.Truth.{all_of, below, agree}
use Rattle.facts.proofs.Rows.{unused_blank_lem, blank_sound}
use Rattle.row_tests.specs.Bytes.{empty_rows}
use Rattle.sound_requests.specs.Rows.{empty_tables}

-- m tests, and n after them
all_more : (t : ℕ → Bool) (m n i : ℕ) → all t m i ≡ true → all t (m + n) i ≡ all t n (i + m)
all_more t zero n i h = let z : 0 + n ≡ n = omega arith in let y : i + 0 ≡ i = omega arith in rw (z, y)
all_more t (suc m) n i h =
    let z : suc m + n ≡ suc (m + n) = omega arith in
    let y : i + suc m ≡ suc i + m = omega arith in
    ⊎_elim
    (λ p. rw (z, y) (all_hit t (m + n) i p ∙ all_more t m n (suc i) (sym (all_hit t m i p) ∙ h)))
    (λ p. clash h (all_miss t m i p))
    (either (t i))

all_less : (t : ℕ → Bool) (m n i : ℕ) → all t m i ≡ false → all t (m + n) i ≡ false
all_less t zero n i h = clash (all_none t i) h
all_less t (suc m) n i h =
    let z : suc m + n ≡ suc (m + n) = omega arith in
    ⊎_elim
    (λ p. rw z (all_hit t (m + n) i p ∙ all_less t m n (suc i) (sym (all_hit t m i p) ∙ h)))
    (λ p. rw z (all_miss t (m + n) i p))
    (either (t i))

-- a loop that takes sixteen at a time
module _ {t : ℕ → Bool} {k : ℕ} {whole : Bool} (r : Rest t 256 (16 * k) whole) (l : k < 16) {b : Bool} (e : b ≡ all t 16 (16 * k)) where
  left : 256 - 16 * k ≡ 16 + (256 - 16 * (k + 1))
  left = omega arith

  pub sixteen_fail : not b ≡ true → false ≡ whole
  sixteen_fail f = sym (rw left (all_less t 16 (256 - 16 * (k + 1)) (16 * k) (sym e ∙ not-true b f))) ∙ r.decides

  pub sixteen_pass : not b ≡ false → Rest t 256 (16 * (k + 1)) whole
  sixteen_pass f =
      let next : 16 * (k + 1) ≡ 16 * k + 16 = omega arith in
      record { decides = sym (rw (left, next) (all_more t 16 (256 - (16 * k + 16)) (16 * k) (sym e ∙ not-false b f))) ∙ r.decides }

pub sixteens_end : {t : ℕ → Bool} {k : ℕ} {whole : Bool} → Rest t 256 (16 * k) whole → 16 ≤ k → true ≡ whole
sixteens_end {t} {k} r h = sym (all_end t 256 (16 * k) (omega arith)) ∙ r.decides

-- the sixteen themselves
pub sixteen_starts : (t : ℕ → Bool) (k : ℕ) → Rest t (16 * k + 16) (16 * k) (all t 16 (16 * k))
sixteen_starts t k = let n : 16 * k + 16 - 16 * k ≡ 16 = omega arith in record { decides = rw n }

-- sixteen rows of which none is used
module _ (s : State) (k : ℕ) {u r : Bool} (uq : u ≡ empty_rows s numbers (16 * k) 16) (none : u ≡ true) (rq : r ≡ empty_tables s request_tables k) where
  unused : (i : ℕ) → 16 * k ≤ i → i < 16 * k + 16 → is_used s i ≡ false
  unused i a l =
      let place : 16 * k + (i - 16 * k) ≡ i = omega arith in
      let t : ℕ → Bool = λ j. eqb (s numbers (16 * k + j)) 0 in
      rw (rw place at (below t 16 (sym uq ∙ none) (i - 16 * k) (omega arith)))

  pub by_tables : r ≡ all (sound_row s) 16 (16 * k)
  by_tables =
      rq
      ∙ every_from (λ f. empty_rows s f (16 * k) 16) 15 numbers
      ∙ all_hit (λ f. empty_rows s f (16 * k) 16) 14 numbers (sym uq ∙ none)
      ∙ agree
      (λ p. all_of (sound_row s) 16 (16 * k) (λ i a l.
      let place : 16 * k + (i - 16 * k) ≡ i = omega arith in
      blank_sound s i (unused i a l) (λ f g h.
      let row = all_at (λ f. empty_rows s f (16 * k) 16) 14 request_kinds p f g h in
      let zero : s f (16 * k + (i - 16 * k)) ≡ 0 = eqb-true (s f (16 * k + (i - 16 * k))) 0 (below (λ j. eqb (s f (16 * k + j)) 0) 16 row (i - 16 * k) (omega arith)) in
      rw place at zero)))
      (λ p. all_of (λ f. empty_rows s f (16 * k) 16) 14 request_kinds (λ f g h.
      all_of (λ j. eqb (s f (16 * k + j)) 0) 16 0 (λ j a l.
      let i = 16 * k + j in
      eq-eqb (s f i) 0 (unused_blank_lem s i (all_at (sound_row s) 16 (16 * k) p i (omega arith) (omega arith)) (unused i (omega arith) (omega arith)) f g h))))
