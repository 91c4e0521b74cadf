-- What each way through the steps of a mark shows.
-- Assumes nothing.
use mathlib.Core.Path.{◌≡◌, sym, ap, ◌∙◌}
use mathlib.Core.Bool.{Bool, true, false}
use mathlib.Core.List.{List}
use mathlib.Core.Logic.{⊎_elim}
use Prim.Native.Nat.{ℕ, ◌+◌, ◌*◌, ◌<◌}
use native.Mathlib.Omega.{arith}
use lib.Dec.{eqb}
use lib.ListN.{get_or}
use borrow.Author.Tests.{eq-eqb, ne_eqb}
use Rattle.laws.specs.Filled.{filled}
use Rattle.laws.specs.Search.{all}
use Rattle.laws.proofs.Cases.{either}
use Rattle.laws.proofs.Filled.{filled_at}
use Rattle.laws.proofs.Least.{all_same}
use Rattle.baskets.specs.Fresh.{eligible_by}
use Rattle.baskets.specs.declared.Eligibility.{Eligibility}
use Rattle.book.specs.Layout.{positions}
use Rattle.book.specs.State.{State}
use Rattle.facts.proofs.Stock.{position_at}
use Rattle.marking_laws.specs.Pass.{is_empty}
use Rattle.rules.specs.Stock.{position_of}
use Rattle.mark_steps.specs.Stepped.{ineligible_in, may_stay}

-- one security of a position
module _ (position columns : List ℕ) (x : Eligibility) (i : ℕ) where
  pub no_nominal : get_or position i 0 ≡ 0 → 0 ≡ ineligible_in position columns x i
  no_nominal z = ⊎_elim (λ e. rw e) (λ e. rw e (sym z)) (either (eligible_by x columns i))

  pub stays : {b : Bool} → b ≡ eligible_by x columns i → b ≡ true → 0 ≡ ineligible_in position columns x i
  stays e t = rw (sym e ∙ t)

  pub goes : {b : Bool} → b ≡ eligible_by x columns i → b ≡ false → get_or position i 0 ≡ ineligible_in position columns x i
  goes e t = rw (sym e ∙ t)

-- one security of an exposure's position, read where it stands
module _ (s : State) (e i : ℕ) (l : i < 64) (columns : List ℕ) (x : Eligibility) {n : ℕ} (q : n ≡ s positions (64 * e + i)) where
  held : n ≡ get_or (position_of s e) i 0
  held = q ∙ sym (position_at s e i l)

  pub none_held : n ≡ 0 → eqb n 0 ≡ may_stay (position_of s e) columns x i
  none_held z = eq-eqb n 0 z ∙ sym (eq-eqb (ineligible_in (position_of s e) columns x i) 0 (sym (no_nominal (position_of s e) columns x i (sym held ∙ z))))

  pub some_held : (n ≡ 0 → ⊥) → {b : Bool} → b ≡ eligible_by x columns i → b ≡ may_stay (position_of s e) columns x i
  some_held z {b} h =
      let p = position_of s e in
      ⊎_elim
      (λ t. t ∙ sym (eq-eqb (ineligible_in p columns x i) 0 (sym (stays p columns x i h t))))
      (λ f. f ∙ sym (ne_eqb (ineligible_in p columns x i) 0 (λ o. z (held ∙ goes p columns x i h f ∙ o))))
      (either b)

-- where all may stay, nothing is to be given back
pub all_stay : (position columns : List ℕ) (x : Eligibility) → all (may_stay position columns x) 64 0 ≡ is_empty (filled (ineligible_in position columns x) 64 64)
all_stay position columns x =
    let given = filled (ineligible_in position columns x) 64 64 in
    all_same
    (may_stay position columns x)
    (λ i. eqb (get_or given i 0) 0)
    64
    0
    (λ j g l. sym (ap (λ (n : ℕ). eqb n 0) (filled_at (ineligible_in position columns x) 64 64 j (omega arith) l)))
