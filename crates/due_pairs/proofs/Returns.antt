-- What each return of the tests of a due row shows.
-- Assumes nothing.
use mathlib.Core.Path.{◌≡◌, sym, ◌∙◌}
use mathlib.Core.Bool.{Bool, true, false, and-false}
use Prim.Native.Nat.{ℕ, ◌+◌, ◌≤◌, ◌<◌}
use native.Mathlib.Omega.{arith}
use lib.Dec.{leb}
use borrow.Author.Tests.{eq-eqb, ne_eqb, lt-leb, lt-ltb, le-ltb}
use Rattle.laws.proofs.Cases.{and_left}
use Rattle.book.specs.Layout.{today, numbers, request_kinds, amounts, settlements, settled_amounts, partners, ends}
use Rattle.book.specs.State.{State}
use Rattle.rules.specs.Requests.{is_used, is_paired, is_live, partner_of}
use Rattle.rules.specs.Settlement.{is_due}
use Rattle.facts.specs.Good.{Good}
use Rattle.facts.proofs.Rows.{used_paired}
use Rattle.due_pairs.specs.Due.{due_of}

-- a row's settlement day and number within four bytes
pub record Dated (s : State) (i : ℕ) : Type 0 where
  pub day : s settlements i < 4294967296
  pub number : s numbers i < 4294967296

-- the row of a partner, by its mark
module _ (s : State) (i j : ℕ) (e : s partners i ≡ j + 1) where
  same : partner_of s i ≡ j
  same = omega (arith, e)

  paired : is_paired s i ≡ true
  paired = rw (ne_eqb (s partners i) 0 (λ z. omega (arith, e, z)))

  module _ {n : ℕ} (nq : n ≡ s numbers i) (nz : n ≡ 0 → ⊥) where
    used : is_used s i ≡ true
    used = rw (ne_eqb (s numbers i) 0 (λ z. nz (nq ∙ z)))

    -- a used row that names a partner names a row
    pub partner_row : Good s → i < 256 → j < 256
    partner_row g l = rw same at (used_paired s i (g.facts.row i l) used paired).pair.partner_below

    module _ {m : ℕ} (mq : m ≡ s numbers j) where
      pub is_earlier : n ≤ m → false ≡ is_due s i
      unfolding is_due
      is_earlier h = rw (same, ← mq, ← nq, le-ltb m n h, and-false, and-false)

      pub by_day : {z a x d t : ℕ} → z ≡ s ends i → z ≡ 0 → a ≡ s amounts i → x ≡ s settled_amounts i → x < a → m < n
          → d ≡ s settlements i → t ≡ s today 0 → leb d t ≡ is_due s i
      unfolding is_due
      by_day zq z aq xq l h dq tq = rw (dq, tq, used, sym zq ∙ z, lt-leb (s amounts i) (s settled_amounts i) (rw (aq, xq) at l), paired, same, ← mq, ← nq, lt-ltb m n h)

-- a row that is due has a number
pub due_used : (s : State) (i : ℕ) → is_due s i ≡ true → is_used s i ≡ true
unfolding is_due
due_used s i h = and_left (is_used s i) _ (and_left (is_live s i) _ h)

-- the ways out of `is_due`
module _ (s : State) (kind i : ℕ) {k : ℕ} (kq : k ≡ s request_kinds i) where
  pub other_kind : (k ≡ kind → ⊥) → false ≡ due_of s kind i
  other_kind h = rw (ne_eqb (s request_kinds i) kind (λ e. h (kq ∙ e)))

  pub same_kind : k ≡ kind → {d : Bool} → d ≡ is_due s i → d ≡ due_of s kind i
  same_kind e dq = rw (eq-eqb (s request_kinds i) kind (sym kq ∙ e)) dq
