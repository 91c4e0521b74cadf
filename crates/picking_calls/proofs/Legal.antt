-- What each return of the tests of a host's numbers shows.
-- Assumes nothing.
use mathlib.Core.Path.{◌≡◌, sym, ◌∙◌}
use mathlib.Core.Bool.{Bool, true, not, ◌&&◌, and_assoc}
use mathlib.Core.List.{List}
use Prim.Native.Nat.{ℕ, ◌≤◌}
use lib.Dec.{eqb, leb}
use borrow.Author.Tests.{leb-true}
use Rattle.laws.proofs.Cases.{and_left, and_right}
use Rattle.baskets.specs.declared.Basket.{Basket}
use Rattle.securities.specs.Position.{nominals_of, legal_nominals}
use Rattle.securities.specs.Security.{legal_securities}
use Rattle.securities.specs.Bounds.{AllInBounds, Within}
use Rattle.securities.proofs.Legal.{all_in_bounds, all_within}
use Rattle.picking_calls.specs.Answers.{legal_pick, legal_free}

-- the tests of a pick one after the other, each joined to those before it
pub pick_tests : (columns account : List ℕ) (k : Basket) (amount : ℕ) {v1 v2 v3 : Bool} → v1 ≡ (legal_nominals account && legal_securities columns)
    → v2 ≡ (v1 && not (eqb k.map 0)) → v3 ≡ (v2 && leb k.oldest 255) → (v3 && leb amount 10000000000000) ≡ legal_pick columns account k amount
unfolding legal_pick
pick_tests columns account k amount p q r = rw (r, q, p) (simp and_assoc)

-- what the tests of a pick are worth
pub record PickReady (columns account : List ℕ) (k : Basket) : Type 0 where
  pub oldest_le : k.oldest ≤ 255
  pub in_bounds : AllInBounds columns
  pub within : Within (nominals_of account)

pub pick_ready : (columns account : List ℕ) (k : Basket) (amount : ℕ) {b : Bool} → b ≡ legal_pick columns account k amount → b ≡ true → PickReady columns account k
unfolding legal_pick
pick_ready columns account k amount {b} e f =
    let h : legal_pick columns account k amount ≡ true = sym e ∙ f in
    let age = leb k.oldest 255 && leb amount 10000000000000 in
    let map = not (eqb k.map 0) && age in
    let h1 = and_right (legal_nominals account) (legal_securities columns && map) h in
    let h2 = and_right (legal_securities columns) map h1 in
    let h3 = and_right (not (eqb k.map 0)) age h2 in
    record {
      oldest_le = leb-true k.oldest 255 (and_left (leb k.oldest 255) (leb amount 10000000000000) h3);
      in_bounds = all_in_bounds columns (and_left (legal_securities columns) map h1);
      within = all_within account (and_left (legal_nominals account) (legal_securities columns && map) h);
    }

module _ (columns position : List ℕ) (exposure : ℕ) where
  -- what the tests of a free are worth
  pub free_in_bounds : legal_free columns position exposure ≡ true → AllInBounds columns
  unfolding legal_free
  free_in_bounds h =
      all_in_bounds columns (and_left (legal_securities columns) (leb exposure 10000000000000) (and_right (legal_nominals position) (legal_securities columns && leb exposure 10000000000000) h))

  pub free_within : legal_free columns position exposure ≡ true → Within (nominals_of position)
  unfolding legal_free
  free_within h = all_within position (and_left (legal_nominals position) (legal_securities columns && leb exposure 10000000000000) h)
