-- One pair settles: a return gives bonds back, a FOP takes some in. The book stays sound, each participant keeps its bonds, and one
-- exposure's amount changes by what settled.
-- Assumes nothing.
use mathlib.Core.Path.{◌≡◌}
use mathlib.Core.Bool.{Bool, true, false, cond}
use mathlib.Core.List.{List}
use mathlib.Core.Logic.{⊎_elim}
use Prim.Native.Nat.{ℕ, ◌+◌, ◌*◌, ◌-◌, ◌≤◌, ◌<◌}
use native.Mathlib.Omega.{arith}
use lib.Dec.{eqb, ltb}
use borrow.Author.Tests.{eqb-true, eq-eqb, ltb-false}
use Rattle.laws.proofs.Cases.{either}
use Rattle.book.specs.Layout.{tolerance, request_kinds, baskets_or_exposures, pair_partials, in_use, exposure_givers, exposure_amounts, accounts, positions}
use Rattle.book.specs.State.{State, put, lowered}
use Rattle.book.specs.Fits.{Raisable, Lowerable}
use Rattle.book.proofs.Images.{put_same, put_other}
use Rattle.rules.specs.Requests.{is_return, rest_of, exposure_of_fop}
use Rattle.rules.specs.Settlement.{both_settled, return_amount, return_settled}
use Rattle.rules.specs.Stock.{eligible_for, pick_for, free_for, holding}
use Rattle.facts.specs.Good.{Good}
use Rattle.facts.proofs.Rows.{Return, Kind, fop, return, used_fields, used_paired, used_exposure}
use Rattle.bond_laws.proofs.Keeping.{giver_below, good_pledge, good_amount, good_lowered}
use Rattle.bond_laws.proofs.Lots.{Pledgeable, pledge_lowerable, give_back_lowerable, position_lots, pick_pledgeable, pick_value, free_returnable, free_all}
use Rattle.bond_laws.proofs.Moving.{holding_pledge, holding_give_back, pledge_raisable, give_back_raisable}
use Rattle.settlement_laws.specs.Ways.{PairOf, found, fop_amount, fop_settled}
use Rattle.settlement_laws.proofs.Finding.{exposure_used}
use Rattle.settlement_laws.proofs.Pairs.{good_both}

-- what a return's own fields say
return_of : (s : State) (i : ℕ) → Kind s i → is_return s i ≡ true → Return s i
return_of s i (fop e f) r = absurd (omega (arith, eqb-true (s request_kinds i) 7 r))
return_of s i (return e f) r = f

module _ (s : State) (i : ℕ) where
  -- a return: the exposure, what is left of it, and the book between the amounts and the bonds
  abbrev named : ℕ
  named = s baskets_or_exposures i

  abbrev left : ℕ
  left = s exposure_amounts named - return_amount s i

  abbrev pub amount_lowered : State
  amount_lowered = put (both_settled s i (return_amount s i)) exposure_amounts named left

  abbrev pub given_back : List ℕ
  given_back = (free_for amount_lowered named left).nominals

  -- a FOP: the same
  abbrev target : ℕ
  target = exposure_of_fop s i

  abbrev pub amount_raised : State
  amount_raised = put (both_settled s i (fop_amount s i)) exposure_amounts target (s exposure_amounts target + fop_amount s i)

  abbrev pub taken_in : List ℕ
  taken_in = (pick_for s target (eligible_for s target) (rest_of s i)).nominals

  -- the amounts: the exposure's own, and any other
  pub return_within : return_amount s i ≤ s exposure_amounts named
  return_within = omega arith

  pub return_exposure : return_settled s i exposure_amounts named ≡ s exposure_amounts named - return_amount s i
  unfolding return_settled
  return_exposure = put_same (both_settled s i (return_amount s i)) exposure_amounts named left

  pub return_other : (d : ℕ) → (d ≡ named → ⊥) → return_settled s i exposure_amounts d ≡ s exposure_amounts d
  unfolding return_settled
  return_other d n = put_other (both_settled s i (return_amount s i)) exposure_amounts named left d n

  pub fop_exposure : fop_settled s i exposure_amounts target ≡ s exposure_amounts target + fop_amount s i
  unfolding fop_settled
  fop_exposure = put_same (both_settled s i (fop_amount s i)) exposure_amounts target (s exposure_amounts target + fop_amount s i)

  pub fop_other : (d : ℕ) → (d ≡ target → ⊥) → fop_settled s i exposure_amounts d ≡ s exposure_amounts d
  unfolding fop_settled
  fop_other d n = put_other (both_settled s i (fop_amount s i)) exposure_amounts target (s exposure_amounts target + fop_amount s i) d n

  -- at most the rest of a FOP settles, and nothing where the rest would take the exposure above 10^13
  pub fop_within : fop_amount s i ≤ rest_of s i
  unfolding fop_amount
  fop_within = at_most (ltb 10000000000000 (s exposure_amounts target + rest_of s i)) (ltb (rest_of s i - found s i) (s tolerance 0)) (eqb (s pair_partials i) 1)
    where
      at_most : (a b c : Bool) → cond a 0 (cond b (rest_of s i) (cond c (found s i) 0)) ≤ rest_of s i
      at_most true b c = omega arith
      at_most false true c = omega arith
      at_most false false true = pick_value s target (eligible_for s target) (rest_of s i)
      at_most false false false = omega arith

  pub fop_room : (fop_amount s i ≡ 0 → ⊥) → s exposure_amounts target + rest_of s i ≤ 10000000000000
  unfolding fop_amount
  fop_room n =
      let most = s exposure_amounts target + rest_of s i in
      ⊎_elim (λ e. absurd (n (rw e))) (λ e. ltb-false 10000000000000 most e) (either (ltb 10000000000000 most))

module _ {s : State} {i : ℕ} (h : Good s) where
  -- a return
  module _ (r : PairOf s 7 i) where
    pub return_names_lem : Return s i
    return_names_lem = return_of s i (used_fields s i (h.facts.row i r.below) r.used).kind (eq-eqb (s request_kinds i) 7 r.kind_is)

    pub return_good : Good (return_settled s i)
    unfolding return_settled
    return_good =
        let pair = good_both s i (return_amount s i) h r.below r.used r.paired (omega arith) in
        let back = free_returnable (amount_lowered s i) (named s i) (left s i) in
        let small = (used_exposure s (named s i) (h.facts.exposure (named s i) return_names_lem.exposure_below) return_names_lem.exposure_used).amount in
        good_lowered (both_settled s i (return_amount s i)) (named s i) (left s i) (given_back s i) pair return_names_lem.exposure_below return_names_lem.exposure_used (omega arith)
        (record { enough = back.enough; whole = back.whole })
        (λ z k l. rw (z, given_back) (free_all (put (both_settled s i (return_amount s i)) exposure_amounts (named s i) 0) (named s i) k l (position_lots s h.facts (named s i) k return_names_lem.exposure_below l)))

    -- what the two moves of the bonds that go back count on
    pub return_lowerable : Lowerable (amount_lowered s i) positions (64 * named s i) (given_back s i)
    return_lowerable = give_back_lowerable (free_returnable (amount_lowered s i) (named s i) (left s i))

    pub return_raisable : Raisable (lowered (amount_lowered s i) positions (64 * named s i) (given_back s i)) accounts (64 * s exposure_givers (named s i)) (given_back s i)
    unfolding holding
    return_raisable =
        give_back_raisable (amount_lowered s i) (named s i) (given_back s i) return_names_lem.exposure_below return_names_lem.exposure_used
        (giver_below s (named s i) h return_names_lem.exposure_below return_names_lem.exposure_used) h.facts.held return_lowerable

    pub return_bonds : (p k : ℕ) → p < 32 → k < 64 → holding (return_settled s i) p k ≡ holding s p k
    unfolding return_settled holding
    return_bonds = holding_give_back (amount_lowered s i) (named s i) (given_back s i) return_names_lem.exposure_below return_names_lem.exposure_used return_lowerable

  -- a FOP
  module _ (f : PairOf s 6 i) where
    pub fop_below : target s i < 64
    fop_below =
        ⊎_elim
        (λ r. absurd (omega (arith, f.kind_is, eqb-true (s request_kinds i) 7 r)))
        (λ l. l)
        (used_paired s i (h.facts.row i f.below) f.used f.paired).belongs

    pub fop_target : s in_use (target s i) ≡ 1
    fop_target = exposure_used s i fop_below

    taken_whole : Pledgeable (amount_raised s i) (target s i) (taken_in s i)
    taken_whole = let p = pick_pledgeable s (target s i) (eligible_for s (target s i)) (rest_of s i) in record { enough = p.enough; whole = p.whole }

    pub fop_good : (fop_amount s i ≡ 0 → ⊥) → Good (fop_settled s i)
    unfolding fop_settled
    fop_good n =
        let both = both_settled s i (fop_amount s i) in
        let more = s exposure_amounts (target s i) + fop_amount s i in
        let pair = good_both s i (fop_amount s i) h f.below f.used f.paired (fop_within s i) in
        let raised = good_amount both (target s i) more pair fop_below fop_target (omega (arith, fop_within s i, fop_room s i n)) (λ z. absurd (omega arith)) in
        good_pledge (amount_raised s i) (target s i) (taken_in s i) raised fop_below fop_target (λ z. omega (arith, put_same both exposure_amounts (target s i) more)) taken_whole

    -- what the two moves of the bonds that come in count on
    pub fop_lowerable : Lowerable (amount_raised s i) accounts (64 * s exposure_givers (target s i)) (taken_in s i)
    fop_lowerable = pledge_lowerable taken_whole

    pub fop_raisable : Raisable (lowered (amount_raised s i) accounts (64 * s exposure_givers (target s i)) (taken_in s i)) positions (64 * target s i) (taken_in s i)
    unfolding holding
    fop_raisable = pledge_raisable (amount_raised s i) (target s i) (taken_in s i) fop_below fop_target (giver_below s (target s i) h fop_below fop_target) h.facts.held fop_lowerable

    pub fop_bonds : (p k : ℕ) → p < 32 → k < 64 → holding (fop_settled s i) p k ≡ holding s p k
    unfolding fop_settled holding
    fop_bonds = holding_pledge (amount_raised s i) (target s i) (taken_in s i) fop_below fop_target fop_lowerable
