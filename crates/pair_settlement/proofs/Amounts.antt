-- What settles of a pair, and the state that is left, as the code finds them.
-- Assumes nothing.
use mathlib.Core.Path.{◌≡◌, sym, ◌∙◌}
use Prim.Native.Nat.{ℕ, ◌+◌, ◌-◌, ◌≤◌, ◌<◌, min}
use borrow.Author.Tests.{eq-eqb, ne_eqb, lt-ltb, le-ltb}
use Rattle.book.specs.Layout.{baskets_or_exposures, exposure_amounts}
use Rattle.book.specs.State.{State, put}
use Rattle.picking.specs.declared.Outcome.{Outcome}
use Rattle.rules.specs.Requests.{rest_of, exposure_of_fop}
use Rattle.rules.specs.Settlement.{both_settled, return_amount, return_settled}
use Rattle.rules.specs.Stock.{eligible_for, pick_for, free_for, pledge, give_back}
use Rattle.settlement_laws.specs.Ways.{fop_amount, fop_settled, Way, return_way, fop_way, left}
use Rattle.pair_settlement.specs.Pairs.{amount_for}

-- a return
module _ (s : State) (i : ℕ) {e exposure : ℕ} (eq : e ≡ s baskets_or_exposures i) (wq : exposure ≡ s exposure_amounts e) {x : ℕ} where
  pub return_amount_lem : {rest : ℕ} → rest ≡ rest_of s i → x ≡ min rest exposure → x ≡ return_amount s i
  return_amount_lem rq xq = rw (xq, rq, wq, eq)

  pub return_done : x ≡ return_amount s i → (x ≡ 0 → ⊥) → {t u : State} → t ≡ put (both_settled s i x) exposure_amounts e (exposure - x) → u ≡ give_back t e (free_for t e (exposure - x)).nominals → u ≡ left return_way s i
  unfolding return_settled
  return_done xq n tq uq = rw (ne_eqb (return_amount s i) 0 (λ z. n (xq ∙ z)), uq, tq, xq, wq, eq)

-- a FOP
module _ (s : State) (i : ℕ) {e exposure rest : ℕ} (eq : e ≡ exposure_of_fop s i) (wq : exposure ≡ s exposure_amounts e) (rq : rest ≡ rest_of s i) where
  over : exposure + rest ≡ s exposure_amounts (exposure_of_fop s i) + rest_of s i
  over = rw (wq, rq, eq)

  pub fop_waits : 10000000000000 < exposure + rest → 0 ≡ fop_amount s i
  unfolding fop_amount
  fop_waits h = rw (lt-ltb 10000000000000 (s exposure_amounts (exposure_of_fop s i) + rest_of s i) (rw over at h))

  module _ {o : Outcome} (oq : o ≡ pick_for s e (eligible_for s e) rest) {x : ℕ} where
    pub fop_amount_lem : exposure + rest ≤ 10000000000000 → x ≡ amount_for s i rest o.value → x ≡ fop_amount s i
    unfolding fop_amount
    fop_amount_lem h xq = rw (le-ltb 10000000000000 (s exposure_amounts (exposure_of_fop s i) + rest_of s i) (rw over at h), xq, oq, rq, eq)

    pub fop_done : x ≡ fop_amount s i → (x ≡ 0 → ⊥) → {t u : State} → t ≡ put (both_settled s i x) exposure_amounts e (exposure + x) → u ≡ pledge t e o.nominals → u ≡ left fop_way s i
    unfolding fop_settled
    fop_done xq n tq uq = rw (ne_eqb (fop_amount s i) 0 (λ z. n (xq ∙ z)), uq, tq, xq, oq, rq, wq, eq)

-- where nothing settles, all stays
pub none_settles : (y : Way) (s : State) (i : ℕ) {x : ℕ} → x ≡ 0 → x ≡ y.amount s i → s ≡ left y s i
none_settles y s i z q = rw (eq-eqb (y.amount s i) 0 (sym q ∙ z))
