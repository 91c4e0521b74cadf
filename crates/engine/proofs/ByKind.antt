-- The code and the step of a record by its kind.
-- Assumes nothing.
use mathlib.Core.Path.{◌≡◌, refl}
use mathlib.Core.Bool.{true}
use mathlib.Core.List.{List}
use Prim.Native.Nat.{ℕ, zero, suc, ◌+◌, ◌*◌, ◌<◌}
use mathlib.Core.Logic.{◌⊎◌, inl, inr}
use native.Mathlib.Omega.{arith}
use lib.ListN.{get_or}
use borrow.Author.Tests.{ltb-false}
use Rattle.book.specs.Layout.{accounts}
use Rattle.book.specs.State.{State, state}
use Rattle.rules.specs.Call.{steps_of, step_of}
use Rattle.rules.specs.Codes.{deposit_rules, withdrawal_rules, rules_of, unknown_kind, code_of}
use Rattle.rules.specs.Outcome.{silent, lowest}
use Rattle.rules.specs.SetUp.{opened, priced, enrolled, basket_made, deposited, withdrawn}
use Rattle.rules.specs.Sound.{sound}
use Rattle.rules.specs.Stock.{holding}
use Rattle.facts.proofs.Rules.{none_applies}
use Rattle.accounts.specs.Accounts.{AccountRoom, AccountHolds}
use Rattle.record_kinds.specs.Numbered.{kind_number}
use Rattle.record_kinds.specs.declared.Kind.{Kind}
use Rattle.record_kinds.specs.declared.Kind.TheVariants.{Opening, Participant, Settle, Mark}
use Rattle.engine.specs.Accepted.{Taken, Accepted}
use Rattle.totals.specs.Totals.{totals_of}
use Rattle.totals.specs.declared.Totals as totals

-- the code and the step of a kind, by the lists of all
module _ (s : State) (r : List ℕ) (k : ℕ) where
  pub by_code : {c : ℕ} → c ≡ lowest (get_or (rules_of s r) k unknown_kind) → c ≡ code_of s k r
  unfolding code_of
  by_code f = f

  pub by_totals : {t : totals.Totals} → t ≡ totals_of (get_or (steps_of s r) k (silent s)) → t ≡ totals_of (step_of s k r)
  unfolding step_of
  by_totals f = f

  pub by_state : {t : State} → t ≡ (get_or (steps_of s r) k (silent s)).state → t ≡ (step_of s k r).state
  unfolding step_of
  by_state f = f

-- a participant, a settle and a mark have no rule
pub no_code : (s : State) (r : List ℕ) {k : Kind} → (k ≡ Participant) ⊎ ((k ≡ Settle) ⊎ (k ≡ Mark)) → 0 ≡ code_of s (kind_number k) r
unfolding code_of
no_code s r (inl e) = rw e refl
no_code s r (inr (inl e)) = rw e refl
no_code s r (inr (inr e)) = rw e refl

-- kinds 0 to 5 answer nothing
pub silent_totals : (s : State) (k : ℕ) (r : List ℕ) → k < 6 → record { a = 0; b = 0; m = 0 } ≡ totals_of (step_of s k r)
unfolding step_of opened priced enrolled basket_made deposited withdrawn
silent_totals s zero r l = refl
silent_totals s (suc zero) r l = refl
silent_totals s (suc (suc zero)) r l = refl
silent_totals s (suc (suc (suc zero))) r l = refl
silent_totals s (suc (suc (suc (suc zero)))) r l = refl
silent_totals s (suc (suc (suc (suc (suc zero))))) r l = refl
silent_totals s (suc (suc (suc (suc (suc (suc k)))))) r l = absurd (omega arith)

-- what a deposit's and a withdrawal's step count on
module _ (s : State) (r : List ℕ) where
  pub deposit_room : lowest (deposit_rules s r) ≡ 0 → AccountRoom s r
  unfolding deposit_rules holding
  deposit_room h =
      let t = none_applies (deposit_rules s r) refl h in
      record { room = omega (arith, ltb-false 500000000 (holding s (get_or r 0 0) (get_or r 1 0) + get_or r 2 0) t.1.1.0) }

  pub withdrawal_holds : lowest (withdrawal_rules s r) ≡ 0 → AccountHolds s r
  unfolding withdrawal_rules
  withdrawal_holds h =
      let t = none_applies (withdrawal_rules s r) refl h in
      record { holds = ltb-false (s accounts (64 * get_or r 0 0 + get_or r 1 0)) (get_or r 2 0) t.1.1.0 }

-- what the functions of a kind ask of the book
pub sound_kind_lem : {b : List ℕ} {k : Kind} → Taken b k → (k ≡ Opening → ⊥) → sound (state b) ≡ true
sound_kind_lem t n = t.sound_book n

pub no_rule_kind : {b r : List ℕ} {k : Kind} → Accepted b k r → lowest (get_or (rules_of (state b) r) (kind_number k) unknown_kind) ≡ 0
unfolding code_of
no_rule_kind a = a.no_rule
