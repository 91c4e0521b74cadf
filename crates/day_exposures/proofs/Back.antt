-- A whole position given back, security by security where one is held.
-- Assumes nothing.
use mathlib.Core.Path.{◌≡◌, refl, sym, fun_ext, ◌∙◌}
use mathlib.Core.Bool.{true, false}
use mathlib.Core.Logic.{◌⊎◌, inl, inr, ⊎_elim}
use Prim.Native.Nat.{ℕ, ◌+◌, ◌*◌, ◌-◌, ◌≤◌, ◌<◌}
use native.Mathlib.Decide.{ℕ_discrete, dec_lt}
use native.Mathlib.Nat.{le_refl}
use native.Mathlib.Omega.{arith}
use lib.Dec.{eqb}
use borrow.Author.Tests.{eqb-true, eq-eqb, ne_eqb}
use Rattle.laws.proofs.Cases.{either}
use Rattle.book.specs.Layout.{exposure_givers, accounts, positions}
use Rattle.book.specs.State.{State, put, lowered}
use Rattle.book.proofs.Moves.{raised_other, lowered_other}
use Rattle.rules.specs.DayChange.{on_each}
use Rattle.rules.specs.Stock.{position_of, give_back}
use Rattle.facts.proofs.Stock.{position_at}
use Rattle.bond_laws.proofs.Moving.{give_back_account, give_back_position}
use Rattle.day_laws.proofs.Each.{place_ahead, place_passed}
use Rattle.day_rows.specs.Parts.{tried}
use Rattle.day_rows.proofs.OnEach.{each_leaves}
use Rattle.day_exposures.specs.Parts.{is_held, security_back}

-- a place is one of the 64 from a row of a table on, or not
among_row : (r start f j : ℕ) → ((f ≡ r) × (start ≤ j) × (j < start + 64)) ⊎ (f ≡ r → start ≤ j → j < start + 64 → ⊥)
among_row r start f j =
    elim (ℕ_discrete f r) [
      | no d ↦ inr (λ q. absurd (d q))
      | yes q ↦ elim (dec_lt j start) [
        | yes m ↦ inr (λ p a b. omega arith)
        | no m ↦ elim (dec_lt j (start + 64)) [ yes l ↦ inl (q, omega arith, l) | no l ↦ inr (λ p a b. omega arith) ]
      ]
    ]

-- a turn reads and changes its own security alone
pub held_apart : (owner e : ℕ) (t : State) (j i : ℕ) → j < i → is_held e (security_back owner e t j) i ≡ is_held e t i
held_apart owner e t j i l = rw (ne_eqb (64 * e + i) (64 * e + j) (λ q. omega arith))

module _ (owner e : ℕ) (s : State) where
  abbrev turned : ℕ → State
  turned n = on_each (is_held e s) (security_back owner e) n s

  own_position : (i : ℕ) (t : State) (j : ℕ) → (i ≡ j → ⊥) → security_back owner e t j positions (64 * e + i) ≡ t positions (64 * e + i)
  own_position i t j d = rw (ne_eqb (64 * e + i) (64 * e + j) (λ q. d (omega arith)))

  own_account : (i : ℕ) (t : State) (j : ℕ) → (i ≡ j → ⊥) → security_back owner e t j accounts (64 * owner + i) ≡ t accounts (64 * owner + i)
  own_account i t j d = rw (ne_eqb (64 * owner + i) (64 * owner + j) (λ q. d (omega arith)))

  -- before its turn a security is where it was
  pub position_ahead : (i : ℕ) → turned i positions (64 * e + i) ≡ s positions (64 * e + i)
  position_ahead i = place_ahead (is_held e s) (security_back owner e) s (λ t. t positions (64 * e + i)) i (own_position i) i (le_refl i)

  pub account_ahead : (i : ℕ) → turned i accounts (64 * owner + i) ≡ s accounts (64 * owner + i)
  account_ahead i = place_ahead (is_held e s) (security_back owner e) s (λ t. t accounts (64 * owner + i)) i (own_account i) i (le_refl i)

  -- after it, it is the owner's
  position_passed : (i : ℕ) → i < 64 → turned 64 positions (64 * e + i) ≡ 0
  position_passed i l =
      place_passed (is_held e s) (security_back owner e) s (λ t. t positions (64 * e + i)) i (own_position i) 64 l
      ∙ ⊎_elim
      (λ (z : eqb (s positions (64 * e + i)) 0 ≡ true). rw z (eqb-true (s positions (64 * e + i)) 0 z))
      (λ (z : eqb (s positions (64 * e + i)) 0 ≡ false). rw (z, eq-eqb (64 * e + i) (64 * e + i) refl))
      (either (eqb (s positions (64 * e + i)) 0))

  account_passed : (i : ℕ) → i < 64 → turned 64 accounts (64 * owner + i) ≡ s accounts (64 * owner + i) + s positions (64 * e + i)
  account_passed i l =
      place_passed (is_held e s) (security_back owner e) s (λ t. t accounts (64 * owner + i)) i (own_account i) 64 l
      ∙ ⊎_elim
      (λ (z : eqb (s positions (64 * e + i)) 0 ≡ true). rw z (omega (arith, eqb-true (s positions (64 * e + i)) 0 z)))
      (λ (z : eqb (s positions (64 * e + i)) 0 ≡ false). rw (z, eq-eqb (64 * owner + i) (64 * owner + i) refl, account_ahead i, position_ahead i))
      (either (eqb (s positions (64 * e + i)) 0))

  -- every other place is as it was
  beside : (f j : ℕ) → (f ≡ positions → 64 * e ≤ j → j < 64 * e + 64 → ⊥) → (f ≡ accounts → 64 * owner ≤ j → j < 64 * owner + 64 → ⊥) → turned 64 f j ≡ s f j
  beside f j p a = each_leaves (is_held e s) (security_back owner e) (λ t. t f j) 64 (λ t i l. one t i l) s
    where
      one : (t : State) (i : ℕ) → i < 64 → security_back owner e t i f j ≡ t f j
      one t i l =
          elim (ℕ_discrete f positions) [
            | yes q ↦ rw (q, ne_eqb j (64 * e + i) (λ z. p q (omega arith) (omega arith)))
            | no q ↦ elim (ℕ_discrete f accounts) [
              | yes r ↦ rw (r, ne_eqb j (64 * owner + i) (λ z. a r (omega arith) (omega arith)))
              | no r ↦ rw (ne_eqb f positions q, ne_eqb f accounts r)
            ]
          ]

-- all 64 turns give the whole position back
module _ (e : ℕ) (s : State) where
  abbrev owner : ℕ
  owner = s exposure_givers e

  abbrev Same : ℕ → ℕ → Type 0
  Same f j = on_each (is_held e s) (security_back owner e) 64 s f j ≡ give_back s e (position_of s e) f j

  at_position : (i : ℕ) → i < 64 → Same positions (64 * e + i)
  at_position i l = omega (arith, position_passed owner e s i l, give_back_position s e (position_of s e) i l, position_at s e i l)

  at_account : (i : ℕ) → i < 64 → Same accounts (64 * owner + i)
  at_account i l = omega (arith, account_passed owner e s i l, give_back_account s e (position_of s e) i l, position_at s e i l)

  pub position_back : on_each (is_held e s) (security_back owner e) 64 s ≡ give_back s e (position_of s e)
  position_back = fun_ext (λ f. fun_ext (λ j. at f j))
    where
      at : (f j : ℕ) → Same f j
      at f j =
          ⊎_elim
          (λ p. let z : 64 * e + (j - 64 * e) ≡ j = omega (arith, p) in rw p.0 (rw z at (at_position (j - 64 * e) (omega (arith, p)))))
          (λ p. ⊎_elim
          (λ a. let z : 64 * owner + (j - 64 * owner) ≡ j = omega (arith, a) in rw a.0 (rw z at (at_account (j - 64 * owner) (omega (arith, a)))))
          (λ a. beside owner e s f j p a ∙ sym (raised_other (lowered s positions (64 * e) (position_of s e)) accounts (64 * owner) (position_of s e) f j a ∙ lowered_other s positions (64 * e) (position_of s e) f j p))
          (among_row accounts (64 * owner) f j))
          (among_row positions (64 * e) f j)

-- what each return of a turn shows
module _ (owner e : ℕ) (s : State) (i : ℕ) {x : ℕ} (xq : x ≡ s positions (64 * e + i)) where
  pub security_back_lem : {y : ℕ} {t u : State} → (x ≡ 0 → ⊥) → y ≡ s accounts (64 * owner + i) → t ≡ put s accounts (64 * owner + i) (y + x) → u ≡ put t positions (64 * e + i) 0
      → u ≡ tried (is_held e) (security_back owner e) s i
  security_back_lem n yq tq uq = rw (ne_eqb (s positions (64 * e + i)) 0 (rw xq at n)) (uq ∙ rw (tq, yq, xq))

  pub security_left : x ≡ 0 → s ≡ tried (is_held e) (security_back owner e) s i
  security_left z = rw (eq-eqb (s positions (64 * e + i)) 0 (sym xq ∙ z))
