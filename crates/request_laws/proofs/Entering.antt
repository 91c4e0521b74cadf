-- Kinds 6 and 7, FOP and return: what enters keeps all.
-- Assumes nothing.
use mathlib.Core.Path.{◌≡◌, refl, ◌∙◌}
use mathlib.Core.Bool.{true, false}
use mathlib.Core.List.{List, [], ◌∷◌}
use mathlib.Core.Logic.{inl, inr, ⊎_elim}
use Prim.Native.Nat.{ℕ}
use native.Mathlib.Omega.{arith}
use lib.Dec.{eqb}
use borrow.Author.Tests.{eqb-true, eqb-false}
use Rattle.laws.proofs.Cases.{either, and_right}
use Rattle.book.specs.Layout.{next_number}
use Rattle.book.specs.State.{State}
use Rattle.records.specs.Writing.{are_legal}
use Rattle.rules.specs.Codes.{fop_rules, return_rules}
use Rattle.rules.specs.Outcome.{Event, lowest, given}
use Rattle.rules.specs.Requests.{has_key, free_exposure}
use Rattle.rules.specs.Requesting.{pairs_now, exposure_of, needs_exposure, exposure_given, rows_entered, paired_with, entered}
use Rattle.rules.specs.Fields.{giver_in, taker_in, basket_or_exposure_in, closing_in}
use Rattle.facts.proofs.Keeps.{Keeps}
use Rattle.facts.specs.Good.{Good}
use Rattle.laws.proofs.Ranges.{least_le}
use Rattle.facts.proofs.Sums.{all_noted}
use Rattle.request_laws.proofs.Accepting.{fop_names, fop_request, fop_enough, fop_exposure, return_request, return_enough}
use Rattle.request_laws.proofs.Covering.{leaving}
use Rattle.request_laws.proofs.Finding.{free_exposure_lem}
use Rattle.request_laws.proofs.Giving.{given_keeps, given_found, given_request}
use Rattle.request_laws.proofs.Order.{given_first}
use Rattle.request_laws.proofs.EntryCases.{entering_keeps}

-- one step after another that tells nothing
keeps_then : {s t u : State} {es : List Event} (a b m : ℕ) → Keeps s (leaving a b m t es) → Keeps t (leaving a b m u []) → Keeps s (leaving a b m u es)
unfolding all_noted
keeps_then {es = es} a b m first second = record {
  good = second.good;
  bonds = λ p i k l. second.bonds p i k l ∙ first.bonds p i k l;
  amounts = λ p h. second.amounts (all_noted p es) (first.amounts p h);
}

module _ (s : State) (r : List ℕ) (good : Good s) (legal : are_legal 6 r ≡ true) (accepted : lowest (fop_rules s r) ≡ 0) (a b m : ℕ) where
  -- the exposure is given out first, then the rows enter
  with_exposure_lem : needs_exposure s 6 r ≡ true → Keeps s (leaving a b m (exposure_given (rows_entered s 6 r) r (free_exposure s)) (given (free_exposure s) ∷ []))
  with_exposure_lem needs =
      let e = free_exposure s in
      let free = free_exposure_lem s (fop_exposure s r legal accepted needs) in
      let none = eqb-true (exposure_of s r) 64 (and_right (pairs_now s 6 r) (eqb (exposure_of s r) 64) needs) in
      let room = fop_enough s r legal accepted in
      let request = fop_request s r legal accepted in
      let names = fop_names s r legal accepted in
      let first = given_keeps s r e good free.0 free.1 none request names a b m in
      let after = given_request s r e good free.0 free.1 none request names in
      let second = entering_keeps (exposure_given s r e) 6 r first.good after (record { rows = room.rows; numbers = room.numbers }) (λ p. inr (given_found s r e free.0)) a b m in
      rw (given_first s r e) (keeps_then a b m first second)

  without : needs_exposure s 6 r ≡ false → Keeps s (leaving a b m (rows_entered s 6 r) [])
  without needs =
      entering_keeps s 6 r good (fop_request s r legal accepted) (fop_enough s r legal accepted)
      (λ p. inr (let l = least_le (has_key s (giver_in r) (taker_in r) (basket_or_exposure_in r) (closing_in 6 r)) 64 0 in
      let n : exposure_of s r ≡ 64 → ⊥ = eqb-false (exposure_of s r) 64 (rw p at needs) in omega arith)) a b m

pub keeps_fop : (s : State) (r : List ℕ) → Good s → are_legal 6 r ≡ true → lowest (fop_rules s r) ≡ 0 → Keeps s (entered s 6 r)
unfolding entered
keeps_fop s r good legal accepted =
    ⊎_elim
    (λ n. rw n (with_exposure_lem s r good legal accepted (s next_number 0) (paired_with s 6 r) 0 n))
    (λ n. rw n (without s r good legal accepted (s next_number 0) (paired_with s 6 r) 0 n))
    (either (needs_exposure s 6 r))

pub keeps_return : (s : State) (r : List ℕ) → Good s → are_legal 7 r ≡ true → lowest (return_rules s r) ≡ 0 → Keeps s (entered s 7 r)
unfolding entered
keeps_return s r good legal accepted =
    entering_keeps s 7 r good (return_request s r legal accepted) (return_enough s r legal accepted) (λ p. inl refl)
    (s next_number 0) (paired_with s 7 r) 0
