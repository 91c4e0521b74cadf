-- What a step knows of a position's value: Free tells that of what it leaves, and a number that is missing tells that the exposure is used.
-- Assumes nothing.
use mathlib.Core.Path.{◌≡◌, sym, ap, ◌∙◌}
use mathlib.Core.List.{List}
use mathlib.Core.Logic.{⊎_elim}
use Prim.Native.Nat.{ℕ, ◌-◌, ◌<◌}
use native.Mathlib.Nat.{le_refl}
use lib.Dec.{eqb}
use lib.ListN.{get_or}
use borrow.Author.Tests.{eqb-true, eq-eqb, ne_eqb}
use Rattle.laws.proofs.Cases.{either}
use Rattle.laws.proofs.Sum.{sum_same}
use Rattle.valuation.specs.Value.{value}
use Rattle.securities.specs.Position.{worth, value_at, nominals_of}
use Rattle.securities.specs.Security.{security_at}
use Rattle.picking.specs.Free.{remaining}
use Rattle.picking.proofs.Frees.{freeing}
use Rattle.book.specs.Layout.{in_use, exposure_amounts}
use Rattle.book.specs.State.{State, columns_of}
use Rattle.bond_laws.proofs.Moving.{give_back_position}
use Rattle.facts.proofs.Stock.{position_at}
use Rattle.rules.specs.Marking.{missing_of}
use Rattle.rules.specs.Stock.{position_of, value_of, free_for, give_back}
use Rattle.marking_laws.proofs.Moved.{own_give_back}
use Rattle.marking_laws.proofs.Recalls.{columns_kept}

-- the same nominals, the same value
worth_same : (columns : List ℕ) (f g : ℕ → ℕ) → ((i : ℕ) → i < 64 → f i ≡ g i) → worth columns f ≡ worth columns g
unfolding worth
worth_same columns f g h = sum_same (value_at columns f) (value_at columns g) 64 (λ i l. ap (value (security_at columns i).pricing) (h i l))

-- the value that Free tells is that of the position after
pub value_freed : (s : State) (e amount : ℕ) → value_of (give_back s e (free_for s e amount).nominals) e ≡ (free_for s e amount).left
value_freed s e amount =
    let n = (free_for s e amount).nominals in
    let t = give_back s e n in
    ap (λ (c : List ℕ). worth c (nominals_of (position_of t e))) (columns_kept (own_give_back s e n).bonds)
    ∙ worth_same (columns_of s) (nominals_of (position_of t e)) (remaining (columns_of s) (position_of s e) n)
    (λ i l. position_at t e i l ∙ give_back_position s e n i l ∙ ap (λ (x : ℕ). x - get_or n i 0) (sym (position_at s e i l)))
    ∙ sym (freeing (columns_of s) (position_of s e) amount 64 (le_refl 64)).value

-- what is missing of an exposure
module _ (s : State) (e : ℕ) where
  pub missing_used : {x : ℕ} → s in_use e ≡ 1 → x ≡ s exposure_amounts e - value_of s e → x ≡ missing_of s e
  missing_used o h = rw (eq-eqb (s in_use e) 1 o) h

  pub missing_unused : {u : ℕ} → u ≡ s in_use e → (u ≡ 1 → ⊥) → 0 ≡ missing_of s e
  missing_unused q n = rw (ne_eqb (s in_use e) 1 (rw q at n))

  module _ {x : ℕ} (h : x ≡ missing_of s e) (some : x ≡ 0 → ⊥) where
    pub lacking_used : s in_use e ≡ 1
    lacking_used = ⊎_elim (λ t. eqb-true (s in_use e) 1 t) (λ f. absurd (some (rw f at h))) (either (eqb (s in_use e) 1))

    pub lacking_is : x ≡ s exposure_amounts e - value_of s e
    lacking_is = rw (eq-eqb (s in_use e) 1 lacking_used) at h
