-- A mark and an accepted recall leave a good book, each participant's bonds and the exposures' amounts.
-- Assumes nothing.
use mathlib.Core.Path.{◌≡◌, refl, ◌∙◌}
use mathlib.Core.Bool.{true, cond}
use mathlib.Core.List.{List, [], ◌∷◌}
use mathlib.Core.Logic.{inl, inr, ⊎_elim}
use Prim.Native.Nat.{ℕ, ◌+◌, ◌*◌, ◌-◌, ◌%◌, ◌≤◌, ◌<◌}
use native.Mathlib.Nat.{le_refl}
use native.Mathlib.Decide.{ℕ_discrete}
use native.Mathlib.Omega.{arith}
use lib.Dec.{eqb, ltb}
use lib.ListN.{take, drop}
use borrow.Author.Tests.{eqb-true, ltb-true, ltb-false, not-false}
use Rattle.laws.proofs.Cases.{either}
use Rattle.laws.proofs.Filled.{filled_at}
use Rattle.book.specs.Layout.{lots, in_use, exposure_givers, exposure_amounts, positions}
use Rattle.book.specs.State.{State}
use Rattle.records.specs.Writing.{are_legal}
use Rattle.rules.specs.Codes.{recall_rules}
use Rattle.facts.proofs.Sums.{all_noted}
use Rattle.rules.specs.Marking.{on_exposures, ineligible_of, ineligible_back, excess_back, shortfall_in, given_back, searched, marked, one_nominal, recalled, substitutes, substituted, recall}
use Rattle.rules.specs.Outcome.{lowest}
use Rattle.rules.specs.Fields.{field}
use Rattle.rules.specs.Stock.{eligible_for, security_set_up, value_of, free_for, pick_for, pledge, give_back, holding}
use Rattle.facts.specs.Good.{Sound, Good}
use Rattle.facts.proofs.Keeps.{Keeps}
use Rattle.facts.proofs.Rows.{position_facts}
use Rattle.facts.proofs.Rules.{none_applies, none_early, goes_on}
use Rattle.facts.proofs.Truth.{split}
use Rattle.bond_laws.proofs.Keeping.{good_pledge, good_give_back}
use Rattle.bond_laws.proofs.Lots.{Pledgeable, Returnable, pledge_lowerable, give_back_lowerable, position_lots, pick_pledgeable, free_returnable}
use Rattle.bond_laws.proofs.Moving.{holding_pledge, holding_give_back}
use Rattle.marking_laws.specs.Recalled.{Recallable}
use Rattle.marking_laws.proofs.Moved.{Bonds, bonds_then, own_none, own_pledge, own_give_back, NoMore, given_less}
use Rattle.marking_laws.proofs.Passes.{Local, pass_keeps, pass_bonds}
use Rattle.marking_laws.proofs.Ranges.{RecallIn, recall_in}
use Rattle.marking_laws.proofs.Recalls.{one_same, one_other}

-- a good state with the bonds of another
pub record Kept (s t : State) : Type 0 where
  pub good : Good t
  pub bonds : (p i : ℕ) → p < 32 → i < 64 → holding t p i ≡ holding s p i

kept_none : (s : State) → Good s → Kept s s
kept_none s h = record { good = h; bonds = λ p i m l. refl }

kept_then : {s t u : State} → Kept s t → Kept t u → Kept s u
kept_then a b = record { good = b.good; bonds = λ p i m l. b.bonds p i m l ∙ a.bonds p i m l }

-- what is not eligible is a part of the position, each security whole
pub ineligible_returnable : (s : State) (e : ℕ) → Sound s → e < 64 → Returnable s e (ineligible_of s e)
ineligible_returnable s e f below =
    let at = filled_at (λ i. cond (eligible_for s e i) 0 (s positions (64 * e + i))) 64 64 in
    record {
      enough = λ i l. rw (at i (le_refl 64) l) (⊎_elim (λ q. rw q (omega arith)) (λ q. rw q (le_refl (s positions (64 * e + i)))) (either (eligible_for s e i)));
      whole = λ i l. rw (at i (le_refl 64) l) (⊎_elim (λ q. rw q (inl refl)) (λ q. rw q (position_lots s f e i below l)) (either (eligible_for s e i)));
    }

module _ (s : State) (e : ℕ) (h : Good s) (below : e < 64) (u : s in_use e ≡ 1) where
  kept_back : (n : List ℕ) → Returnable s e n → Kept s (give_back s e n)
  kept_back n r = record { good = good_give_back s e n h below u r; bonds = holding_give_back s e n below u (give_back_lowerable r) }

  kept_in : (n : List ℕ) → (s exposure_amounts e ≡ 0 → ⊥) → Pledgeable s e n → Kept s (pledge s e n)
  kept_in n a p = record { good = good_pledge s e n h below u a p; bonds = holding_pledge s e n below u (pledge_lowerable p) }

  -- each step of the three passes
  pub kept_ineligible : Kept s (ineligible_back s e)
  unfolding ineligible_back
  kept_ineligible = kept_back (ineligible_of s e) (ineligible_returnable s e h.facts below)

  pub kept_excess : Kept s (excess_back s e)
  unfolding excess_back
  kept_excess = kept_back (free_for s e (s exposure_amounts e)).nominals (free_returnable s e (s exposure_amounts e))

  pub kept_shortfall : Kept s (shortfall_in s e)
  unfolding shortfall_in
  kept_shortfall =
      let missing = s exposure_amounts e - value_of s e in
      ⊎_elim
      (λ q. let l = ltb-true (value_of s e) (s exposure_amounts e) q in
      rw q (kept_in (pick_for s e (eligible_for s e) missing).nominals (λ z. omega arith) (pick_pledgeable s e (eligible_for s e) missing)))
      (λ q. rw q (kept_none s h))
      (either (ltb (value_of s e) (s exposure_amounts e)))

-- each touches its own exposure's position alone
pub own_ineligible : Local ineligible_back
unfolding ineligible_back
own_ineligible s e = own_give_back s e (ineligible_of s e)

pub own_excess : Local excess_back
unfolding excess_back
own_excess s e = own_give_back s e (free_for s e (s exposure_amounts e)).nominals

pub own_shortfall : Local shortfall_in
unfolding shortfall_in
own_shortfall s e =
    ⊎_elim
    (λ q. rw q (own_pledge s e (pick_for s e (eligible_for s e) (s exposure_amounts e - value_of s e)).nominals))
    (λ q. rw q (own_none e s))
    (either (ltb (value_of s e) (s exposure_amounts e)))

-- the steps of the first two passes only lower it
pub ineligible_less : (s : State) (e : ℕ) → NoMore s (ineligible_back s e) e
unfolding ineligible_back
ineligible_less s e = given_less s e (ineligible_of s e)

pub excess_less : (s : State) (e : ℕ) → NoMore s (excess_back s e) e
unfolding excess_back
excess_less s e = given_less s e (free_for s e (s exposure_amounts e)).nominals

-- a pass of such steps
module _ (step : State → ℕ → State) (keep : (t : State) (e : ℕ) → Good t → e < 64 → t in_use e ≡ 1 → Kept t (step t e)) (s : State) (h : Good s) where
  pub kept_pass : (n : ℕ) → n ≤ 64 → Kept s (on_exposures step n s)
  kept_pass n l = pass_keeps step (Kept s) (λ t e m u k. kept_then k (keep t e k.good m u)) s n l (kept_none s h)

module _ (s : State) where
  pub given_back_bonds : Bonds s (given_back s)
  unfolding given_back
  given_back_bonds = let t = on_exposures ineligible_back 64 s in bonds_then (pass_bonds ineligible_back own_ineligible s 64) (pass_bonds excess_back own_excess t 64)

  pub searched_bonds : Bonds s (searched s)
  unfolding searched
  searched_bonds = bonds_then given_back_bonds (pass_bonds shortfall_in own_shortfall (given_back s) 64)

  module _ (h : Good s) where
    pub kept_given_back : Kept s (given_back s)
    unfolding given_back
    kept_given_back =
        let t = on_exposures ineligible_back 64 s in
        let k : Kept s t = kept_pass ineligible_back kept_ineligible s h 64 (le_refl 64) in
        kept_then k (kept_pass excess_back kept_excess t k.good 64 (le_refl 64))

    pub kept_searched : Kept s (searched s)
    unfolding searched
    kept_searched = kept_then kept_given_back (kept_pass shortfall_in kept_shortfall (given_back s) kept_given_back.good 64 (le_refl 64))

-- an exposure stays in use, with its amount, where bonds alone move
pub amounts_kept : {s t : State} → Bonds s t → (e : ℕ) → (t in_use e ≡ s in_use e) × (t exposure_amounts e ≡ s exposure_amounts e)
amounts_kept b e = (b.others in_use e (λ q. omega arith) (λ q. omega arith), b.others exposure_amounts e (λ q. omega arith) (λ q. omega arith))

pub keeps_mark : (s : State) → Good s → Keeps s (marked s)
unfolding marked all_noted
keeps_mark s h =
    let k = kept_searched s h in
    record {
      good = k.good;
      bonds = k.bonds;
      amounts = λ p a e. rw (amounts_kept (searched_bonds s) e).1 (a e);
    }

module _ (s : State) (r : List ℕ) where
  abbrev exposure : ℕ
  exposure = field r 1

  abbrev one : List ℕ
  one = one_nominal (field r 2) (field r 3)

  -- what all rules of a recall but the last leave: those of the names and the lots, and those of the exposure
  pub named_recallable : lowest (take 3 (recall_rules s r)) ≡ 0 → lowest (take 2 (drop 3 (recall_rules s r))) ≡ 0 → Recallable s r
  unfolding recall_rules
  named_recallable h g =
      let names = none_applies (take 3 (recall_rules s r)) refl h in
      let holds = none_applies (take 2 (drop 3 (recall_rules s r))) refl g in
      let known : security_set_up s (field r 2) ≡ true = not-false (security_set_up s (field r 2)) names.1.1.0 in
      record {
        used = eqb-true (s in_use exposure) 1 (split (eqb (s in_use exposure) 1 ∷ eqb (s exposure_givers exposure) (field r 0) ∷ []) (not-false _ holds.0)).0;
        known = known;
        whole = eqb-true (field r 3 % s lots (field r 2)) 0 (not-false (eqb (field r 3 % s lots (field r 2)) 0) (rw known at names.0));
        holds = ltb-false (s positions (64 * exposure + field r 2)) (field r 3) holds.1.0;
      }

  pub accepted_recallable : lowest (recall_rules s r) ≡ 0 → Recallable s r
  unfolding recall_rules
  accepted_recallable h =
      let first = take 3 (recall_rules s r) in
      let later = drop 3 (recall_rules s r) in
      let names = none_early first later h in
      named_recallable names (none_early (take 2 later) (drop 2 later) (goes_on first later refl refl names refl ∙ h))

  module _ (h : Good s) (m : RecallIn r) (k : Recallable s r) where
    pub one_returnable : Returnable s exposure one
    one_returnable = record {
      enough = λ i l. elim (ℕ_discrete i (field r 2)) [
        | yes q ↦ rw (q, one_same (field r 2) (field r 3) (omega arith)) k.holds
        | no q ↦ rw (one_other (field r 2) (field r 3) i l q) (omega arith)
      ];
      whole = λ i l. elim (ℕ_discrete i (field r 2)) [
        | yes q ↦ rw (q, one_same (field r 2) (field r 3) (omega arith)) (inr (k.known, k.whole))
        | no q ↦ rw (one_other (field r 2) (field r 3) i l q) (inl refl)
      ];
    }

    pub kept_recalled : Kept s (recalled s r)
    kept_recalled = kept_back s exposure h (omega arith) k.used one one_returnable

    -- an exposure that holds a nominal has an amount
    amount_some : s exposure_amounts exposure ≡ 0 → ⊥
    amount_some z =
        ⊎_elim
        (λ n. omega (arith, k.holds))
        (λ f. f.amount z)
        (position_facts s exposure (field r 2) (h.facts.position exposure (field r 2) (omega arith) (omega arith)))

    pub kept_substituted : Kept s (substituted s r)
    unfolding substituted substitutes
    kept_substituted = kept_then kept_recalled (kept_in (recalled s r) exposure kept_recalled.good (omega arith) k.used (substitutes s r).nominals amount_some (pick_pledgeable (recalled s r) exposure _ _))

  pub substituted_bonds : Bonds s (substituted s r)
  unfolding substituted
  substituted_bonds = bonds_then (own_give_back s exposure one).bonds (own_pledge (recalled s r) exposure (substitutes s r).nominals).bonds

pub keeps_recall : (s : State) (r : List ℕ) → Good s → are_legal 11 r ≡ true → lowest (recall_rules s r) ≡ 0 → Keeps s (recall s r)
unfolding recall all_noted
keeps_recall s r h legal free =
    let k = kept_substituted s r h (recall_in r legal) (accepted_recallable s r free) in
    record {
      good = k.good;
      bonds = k.bonds;
      amounts = λ p a e. rw (amounts_kept (substituted_bonds s r) e).1 (a e);
    }
