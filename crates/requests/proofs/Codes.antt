-- The codes of kinds 6 to 8, group of rules after group: the first that refuses gives the code.
-- Assumes nothing.
use mathlib.Core.Path.{◌≡◌, refl}
use mathlib.Core.Bool.{not}
use mathlib.Core.List.{List, ◌∷◌, ◌++◌}
use Prim.Native.Nat.{ℕ, ◌≤◌}
use native.Mathlib.Omega.{arith}
use lib.ListN.{get_or}
use borrow.Author.Tests.{eq-eqb, ne_eqb, le-ltb}
use Rattle.std.specs.Prelude.{Option, None}
use Rattle.answers.specs.Refusals.{number}
use Rattle.answers.specs.declared.Refusal.{Refusal}
use Rattle.laws.specs.Found.{found}
use Rattle.laws.proofs.Found.{found_nothing}
use Rattle.laws.proofs.Ranges.{least_le}
use Rattle.facts.proofs.Rules.{stops, goes_on}
use Rattle.book.specs.Layout.{tolerance, modes}
use Rattle.book.specs.State.{State}
use Rattle.rules.specs.Codes.{fop_rules, return_rules, cancel_rules}
use Rattle.rules.specs.Outcome.{Rule, rule, lowest}
use Rattle.rules.specs.Fields.{giver_in, taker_in, basket_or_exposure_in}
use Rattle.rules.specs.Requests.{is_exposure_of}
use Rattle.rules.specs.Requesting.{is_own_request, own_request}
use Rattle.request_codes.specs.Rules.{party_rules, settlement_rules, taker_rules, row_rules, exposure_rules, fop_name_rules}
use Rattle.answers.proofs.Refusals.{number_some as refused}

-- a group that refuses, and one that does not
here : (x : Refusal) (first later : List Rule) → number x ≡ lowest first → number x ≡ lowest (first ++ later)
here x first later h = stops first later h (refused x)

-- 6: a FOP
module _ (s : State) (r : List ℕ) {t : ℕ} (tq : t ≡ s tolerance 0) (high : t ≤ get_or r 4 0) where
  abbrev later : List Rule
  later = row_rules s r ++ exposure_rules s r

  after_amount : {n : ℕ} → n ≡ lowest (fop_name_rules s r ++ (taker_rules s r ++ later)) → n ≡ lowest (fop_rules s r)
  unfolding fop_rules
  after_amount h = rw (← tq, le-ltb (get_or r 4 0) t high) h

  pub fop_names : (x : Refusal) → number x ≡ lowest (fop_name_rules s r) → number x ≡ lowest (fop_rules s r)
  fop_names x h = after_amount (here x (fop_name_rules s r) (taker_rules s r ++ later) h)

  module _ (names : 0 ≡ lowest (fop_name_rules s r)) where
    after_names : {n : ℕ} → n ≡ lowest (taker_rules s r ++ later) → n ≡ lowest (fop_rules s r)
    after_names h = after_amount (goes_on (fop_name_rules s r) (taker_rules s r ++ later) refl names refl h)

    pub fop_taker : (x : Refusal) → number x ≡ lowest (taker_rules s r) → number x ≡ lowest (fop_rules s r)
    fop_taker x h = after_names (here x (taker_rules s r) later h)

    module _ (taker : 0 ≡ lowest (taker_rules s r)) where
      pub fop_rows : (x : Refusal) → number x ≡ lowest (row_rules s r) → number x ≡ lowest (fop_rules s r)
      fop_rows x h = after_names (goes_on (taker_rules s r) later refl taker refl (here x (row_rules s r) (exposure_rules s r) h))

      pub fop_exposure : {n : ℕ} → 0 ≡ lowest (row_rules s r) → n ≡ lowest (exposure_rules s r) → n ≡ lowest (fop_rules s r)
      fop_exposure rows h = after_names (goes_on (taker_rules s r) later refl taker refl (goes_on (row_rules s r) (exposure_rules s r) refl rows refl h))

-- 7: a return
module _ (s : State) (r : List ℕ) where
  abbrev naming : List Rule
  naming = rule (not (is_exposure_of s (giver_in r) (taker_in r) (basket_or_exposure_in r))) 12 ∷ row_rules s r

  as_groups : {n : ℕ} → n ≡ lowest (party_rules s r ++ (settlement_rules s r ++ (taker_rules s r ++ naming))) → n ≡ lowest (return_rules s r)
  unfolding return_rules
  as_groups h = h

  pub return_taker : (x : Refusal) → 0 ≡ lowest (party_rules s r) → 0 ≡ lowest (settlement_rules s r) → number x ≡ lowest (taker_rules s r) → number x ≡ lowest (return_rules s r)
  return_taker x p d h =
      as_groups
      (goes_on (party_rules s r) (settlement_rules s r ++ (taker_rules s r ++ naming)) refl p refl
      (goes_on (settlement_rules s r) (taker_rules s r ++ naming) refl d refl (here x (taker_rules s r) naming h)))

-- 8: a cancel that names no request
pub cancel_none : (s : State) (r : List ℕ) {m : ℕ} {o : Option ℕ} → m ≡ s modes (get_or r 0 0) → (m ≡ 0 → ⊥) → o ≡ found 256 (own_request s (get_or r 0 0) (get_or r 1 0)) → o ≡ None
    → 12 ≡ lowest (cancel_rules s r)
unfolding cancel_rules
cancel_none s r {m} mq known oq is =
    let i = own_request s (get_or r 0 0) (get_or r 1 0) in
    let none : i ≡ 256 = omega (arith, found_nothing 256 i oq is, least_le (is_own_request s (get_or r 0 0) (get_or r 1 0)) 256 0) in
    rw (← mq, ne_eqb m 0 known, eq-eqb i 256 none)
