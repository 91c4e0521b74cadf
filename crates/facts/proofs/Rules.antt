-- "The lowest that applies is given": what a code says of the rules of a list. The first group that gives a code decides; where no code is
-- given, no rule applies.
-- Assumes nothing.
use mathlib.Core.Path.{◌≡◌, refl, sym, ◌∙◌}
use mathlib.Core.Bool.{Bool, true, false, not, ◌&&◌}
use mathlib.Core.List.{List, [], ◌∷◌, ◌++◌}
use mathlib.Core.Logic.{⊎_elim}
use Prim.Native.Nat.{ℕ, zero, suc}
use lib.Dec.{eqb}
use lib.ListN.{get_or}
use borrow.Author.Tests.{eqb-false, not-true}
use Rattle.laws.proofs.Cases.{either, and_left, and_right}
use Rattle.rules.specs.Outcome.{Rule, rule, lowest}

-- each rule gives a code
abbrev pub coded : List Rule → Bool
coded [] = true
coded (r ∷ rs) = not (eqb r.code 0) && coded rs

-- none of the rules applies
abbrev pub NoneApplies : List Rule → Type 0
NoneApplies [] = ◌≡◌ {A = Bool} true true
NoneApplies (r ∷ rs) = (r.applies ≡ false) × NoneApplies rs

gives : (r : Rule) (rs : List Rule) → coded (r ∷ rs) ≡ true → r.code ≡ 0 → ⊥
gives r rs h = eqb-false r.code 0 (not-true (eqb r.code 0) (and_left (not (eqb r.code 0)) (coded rs) h))

rest : (r : Rule) (rs : List Rule) → coded (r ∷ rs) ≡ true → coded rs ≡ true
rest r rs h = and_right (not (eqb r.code 0)) (coded rs) h

-- an accepted record: each rule of its kind, in their order
pub none_applies : (rs : List Rule) → coded rs ≡ true → lowest rs ≡ 0 → NoneApplies rs
none_applies [] c h = refl
none_applies (r ∷ rs) c h =
    let later = none_applies rs (rest r rs c) in
    ⊎_elim (λ t. absurd (gives r rs c (rw t at h))) (λ f. (f, later (rw f at h))) (either r.applies)

-- the same of the rule n
rule_at : (rs : List Rule) → NoneApplies rs → (n : ℕ) → (get_or rs n (rule false 0)).applies ≡ false
rule_at [] h n = refl
rule_at (r ∷ rs) h zero = h.0
rule_at (r ∷ rs) h (suc n) = rule_at rs h.1 n

pub no_rule : (rs : List Rule) → coded rs ≡ true → lowest rs ≡ 0 → (n : ℕ) → (get_or rs n (rule false 0)).applies ≡ false
no_rule rs c h = rule_at rs (none_applies rs c h)

-- a code of the first rules is that of all; where they give none, it is that of the others
pub stops : (first later : List Rule) {x : ℕ} → x ≡ lowest first → (x ≡ 0 → ⊥) → x ≡ lowest (first ++ later)
stops [] later e n = absurd (n e)
stops (r ∷ rs) later e n = ⊎_elim (λ t. rw t (rw t at e)) (λ f. rw f (stops rs later (rw f at e) n)) (either r.applies)

pub goes_on : (first later : List Rule) {x y : ℕ} → coded first ≡ true → x ≡ lowest first → x ≡ 0 → y ≡ lowest later → y ≡ lowest (first ++ later)
goes_on [] later c e z h = h
goes_on (r ∷ rs) later c e z h =
    ⊎_elim
    (λ t. absurd (gives r rs c (sym (rw t at e) ∙ z)))
    (λ f. rw f (goes_on rs later (rest r rs c) (rw f at e) z h))
    (either r.applies)

-- no code of all is none of the first
pub none_early : (first later : List Rule) → lowest (first ++ later) ≡ 0 → lowest first ≡ 0
none_early [] later h = refl
none_early (r ∷ rs) later h = ⊎_elim (λ t. rw t (rw t at h)) (λ f. rw f (none_early rs later (rw f at h))) (either r.applies)
