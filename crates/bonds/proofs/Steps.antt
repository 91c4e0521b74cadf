-- Pick and Free, step by step as the code takes them: the giver is read first.
-- Assumes nothing.
use mathlib.Core.Path.{◌≡◌, ◌∙◌}
use mathlib.Core.List.{List}
use Prim.Native.Nat.{ℕ, ◌*◌}
use Rattle.book.specs.Layout.{exposure_givers, today, accounts, positions}
use Rattle.book.specs.State.{State, row_at, columns_of}
use Rattle.baskets.specs.Fresh.{eligible_by, EligibilityFor}
use Rattle.baskets.specs.declared.Eligibility.{Eligibility}
use Rattle.picking.specs.Free.{freed}
use Rattle.picking.specs.Pick.{picked}
use Rattle.picking.specs.declared.Freed.{Freed}
use Rattle.picking.specs.declared.Outcome.{Outcome}
use Rattle.picking.proofs.Picks.{picked_eligible}
use Rattle.rules.specs.Stock.{account_of, basket_of, eligible_for, pick_for, free_for}

-- Pick and Free on the rows that the code reads
module _ (s : State) (e amount : ℕ) {columns row : List ℕ} (cq : columns ≡ columns_of s) where
  pub picked_for_lem : {g : ℕ} {x : Eligibility} {o : Outcome} → g ≡ s exposure_givers e → row ≡ row_at s accounts (64 * g) → EligibilityFor (basket_of s e) (s today 0) (columns_of s) x
      → o ≡ picked columns row (eligible_by x columns) amount → o ≡ pick_for s e (eligible_for s e) amount
  picked_for_lem gq rq f q = rw (cq, rq, gq) at q ∙ picked_eligible (columns_of s) (account_of s (s exposure_givers e)) amount f

  pub freed_for : {f : Freed} → row ≡ row_at s positions (64 * e) → f ≡ freed columns row amount → f ≡ free_for s e amount
  freed_for rq q = rw (q, rq, cq)
