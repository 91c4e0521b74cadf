-- Every kind's rules stand in the order of precedence: one computed test over the list of kinds, and a law that turns it into the rule at
-- each kind.
-- Assumes nothing.
use mathlib.Core.Path.{◌≡◌, refl, subst}
use mathlib.Core.Bool.{Bool, true, ◌&&◌}
use mathlib.Core.List.{List, [], ◌∷◌}
use Prim.Native.Nat.{ℕ, zero, suc, ◌+◌}
use native.Mathlib.Nat.{add-zero, zero-add, suc-add, add-suc}
use lib.ListN.{get_or}
use Rattle.laws.proofs.Cases.{and_left, and_right}
use Rattle.rules.specs.Codes.{opening_rules, price_rules, basket_rules, deposit_rules, withdrawal_rules, fop_rules, return_rules, cancel_rules, recall_rules, next_day_rules, rules_of, unknown_kind, precedence_of, in_precedence, RulesInPrecedence}
use Rattle.rules.specs.Outcome.{Rule}
use Rattle.rules.specs.Reads.{account, position, exposure, request, basket, ReadRulesInPrecedence}

-- each list from the kind k on
abbrev all_in_precedence : ℕ → List (List Rule) → Bool
all_in_precedence k [] = true
all_in_precedence k (rs ∷ rss) = in_precedence (precedence_of k) rs && all_in_precedence (suc k) rss

kind_at : (rss : List (List Rule)) (from k : ℕ) → all_in_precedence from rss ≡ true → in_precedence (precedence_of (from + k)) (get_or rss k unknown_kind) ≡ true
kind_at [] from k h = refl
kind_at (rs ∷ rss) from zero h = rw (add-zero from) (and_left (in_precedence (precedence_of from) rs) (all_in_precedence (suc from) rss) h)
kind_at (rs ∷ rss) from (suc k) h =
    rw (add-suc from k, ← suc-add from k) (kind_at rss (suc from) k (and_right (in_precedence (precedence_of from) rs) (all_in_precedence (suc from) rss) h))

pub rules_in_precedence : RulesInPrecedence
unfolding opening_rules price_rules basket_rules deposit_rules withdrawal_rules fop_rules return_rules cancel_rules recall_rules next_day_rules
rules_in_precedence s k r = subst (λ (n : ℕ). in_precedence (precedence_of n) (get_or (rules_of s r) k unknown_kind) ≡ true) (zero-add k) (kind_at (rules_of s r) 0 k refl)

pub read_rules_in_precedence : ReadRulesInPrecedence
read_rules_in_precedence s (account p i) = refl
read_rules_in_precedence s (position e i) = refl
read_rules_in_precedence s (exposure e) = refl
read_rules_in_precedence s (request n) = refl
read_rules_in_precedence s (basket b) = refl
