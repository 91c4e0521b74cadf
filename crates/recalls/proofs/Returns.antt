-- A recall's codes way by way, what its moves count on, and its step.
-- Assumes nothing.
use mathlib.Core.Path.{◌≡◌, refl, sym, ap, ◌∙◌}
use mathlib.Core.Bool.{Bool, true, false, not, cond, and-false}
use mathlib.Core.List.{List}
use mathlib.Core.Logic.{⊎_elim}
use Prim.Native.Nat.{ℕ, ◌+◌, ◌*◌, ◌%◌, ◌≤◌, ◌<◌}
use lib.ListN.{length, get_or, take, drop}
use borrow.Author.Tests.{eq-eqb, ne_eqb, lt-ltb, le-ltb}
use Rattle.laws.proofs.Cases.{either}
use Rattle.picking.specs.declared.Outcome.{Outcome}
use Rattle.book.specs.Layout.{book_length, lots, modes, in_use, exposure_givers, positions}
use Rattle.book.specs.State.{State, state}
use Rattle.rules.specs.Codes.{recall_rules}
use Rattle.record_kinds.specs.declared.Kind.TheVariants.{Recall}
use Rattle.records.specs.declared.record.Record.{Record}
use Rattle.rules.specs.Marking.{one_nominal, recalled, substitutes, substituted, recall_accepted, recall}
use Rattle.rules.specs.Outcome.{Rule, lowest}
use Rattle.rules.specs.Fields.{field}
use Rattle.rules.specs.Sound.{sound}
use Rattle.rules.specs.Stock.{participant_set_up, pledge}
use Rattle.totals.specs.Totals.{totals_of}
use Rattle.totals.specs.declared.Totals.{Totals}
use Rattle.bonds.specs.Moves.{Pledging, GivingBack}
use Rattle.bonds.proofs.Ready.{gives_back, pledges}
use Rattle.bond_laws.proofs.Lots.{pick_pledgeable}
use Rattle.facts.proofs.Rules.{stops, goes_on}
use Rattle.marking_laws.specs.Recalled.{Recallable}
use Rattle.marking_laws.proofs.Marking.{named_recallable, accepted_recallable, one_returnable, kept_recalled}
use Rattle.marking_laws.proofs.Ranges.{RecallIn, recall_in}
use Rattle.substitution.specs.Recalling.{Recalling}
use Rattle.substitution.proofs.Accepting.{facts_of, ranges_of, exposure_in, good_in}
use Rattle.recalls.specs.Codes.{names_code, holds_code}

-- the ranges of a recall's fields
pub ranges : (entry : Record) → entry.kind ≡ Recall → RecallIn entry.fields
ranges entry k = recall_in entry.fields (rw k at entry.legal)

-- the names and the lots
module _ (s : State) (r : List ℕ) {lot : ℕ} (q : lot ≡ s lots (field r 2)) where
  pub no_lot : lot ≡ 0 → 5 ≡ names_code s r
  unfolding recall_rules
  no_lot z = rw (eq-eqb (s lots (field r 2)) 0 (sym q ∙ z)) (⊎_elim (λ p. rw p) (λ p. rw p) (either (participant_set_up s (field r 0))))

  module _ (n : lot ≡ 0 → ⊥) where
    pub part_lot : (field r 3 % lot ≡ 0 → ⊥) → 4 ≡ names_code s r
    unfolding recall_rules
    part_lot h = rw (ne_eqb (s lots (field r 2)) 0 (rw q at n), ne_eqb (field r 3 % s lots (field r 2)) 0 (rw q at h))

    module _ (h : field r 3 % lot ≡ 0) {mode : ℕ} (m : mode ≡ s modes (field r 0)) where
      pub no_giver : mode ≡ 0 → 5 ≡ names_code s r
      unfolding recall_rules
      no_giver z = rw (ne_eqb (s lots (field r 2)) 0 (rw q at n), eq-eqb (field r 3 % s lots (field r 2)) 0 (rw q at h), eq-eqb (s modes (field r 0)) 0 (sym m ∙ z))

      pub all_known : (mode ≡ 0 → ⊥) → 0 ≡ names_code s r
      unfolding recall_rules
      all_known k = rw (ne_eqb (s lots (field r 2)) 0 (rw q at n), eq-eqb (field r 3 % s lots (field r 2)) 0 (rw q at h), ne_eqb (s modes (field r 0)) 0 (rw m at k))

-- the exposure and what it holds
module _ (s : State) (r : List ℕ) {used : ℕ} (q : used ≡ s in_use (field r 1)) where
  pub no_exposure : (used ≡ 1 → ⊥) → 12 ≡ holds_code s r
  unfolding recall_rules
  no_exposure n = rw (ne_eqb (s in_use (field r 1)) 1 (rw q at n))

  module _ (o : used ≡ 1) {giver : ℕ} (g : giver ≡ s exposure_givers (field r 1)) where
    pub other_giver : (giver ≡ field r 0 → ⊥) → 12 ≡ holds_code s r
    unfolding recall_rules
    other_giver n = rw (ne_eqb (s exposure_givers (field r 1)) (field r 0) (rw g at n), and-false)

    module _ (h : giver ≡ field r 0) {x : ℕ} (p : x ≡ s positions (64 * field r 1 + field r 2)) where
      pub too_little : x < field r 3 → 10 ≡ holds_code s r
      unfolding recall_rules
      too_little l =
          rw (eq-eqb (s in_use (field r 1)) 1 (sym q ∙ o), eq-eqb (s exposure_givers (field r 1)) (field r 0) (sym g ∙ h), lt-ltb (s positions (64 * field r 1 + field r 2)) (field r 3) (rw p at l))

      pub enough_held : field r 3 ≤ x → 0 ≡ holds_code s r
      unfolding recall_rules
      enough_held l =
          rw (eq-eqb (s in_use (field r 1)) 1 (sym q ∙ o), eq-eqb (s exposure_givers (field r 1)) (field r 0) (sym g ∙ h), le-ltb (s positions (64 * field r 1 + field r 2)) (field r 3) (rw p at l))

-- the nominal may go back, and then the substitutes may come in
module _ {book : List ℕ} {entry : Record} (k : Recalling book entry) (small : (i : ℕ) → get_or book i 0 < 256) where
  pub one_gives : GivingBack (state book) (field entry.fields 1) (one_nominal (field entry.fields 2) (field entry.fields 3))
  one_gives =
      gives_back (state book) (field entry.fields 1) (one_nominal (field entry.fields 2) (field entry.fields 3)) (facts_of k) (exposure_in k) k.recallable.used
      (one_returnable (state book) entry.fields (good_in k small) (ranges_of k) k.recallable)

  pub found_pledges : {t : State} {o : Outcome} → t ≡ recalled (state book) entry.fields → o ≡ substitutes (state book) entry.fields → Pledging t (field entry.fields 1) o.nominals
  unfolding substitutes
  found_pledges q n =
      rw (q, n)
      (pledges (recalled (state book) entry.fields) (field entry.fields 1) (substitutes (state book) entry.fields).nominals (kept_recalled (state book) entry.fields (good_in k small) (ranges_of k) k.recallable).good.facts
      (exposure_in k) k.recallable.used (pick_pledgeable (recalled (state book) entry.fields) (field entry.fields 1) _ _))

-- the code of all rules, one part after the other; the last is 16
abbrev last_code : Bool → ℕ
last_code accepted = cond (not accepted) 16 0

module _ (s : State) (r : List ℕ) {names : ℕ} (q : names ≡ names_code s r) where
  -- the rules after those of the names and the lots
  abbrev others : List Rule
  others = drop 3 (recall_rules s r)

  module _ (z : names ≡ 0) where
    after_names : {x : ℕ} → x ≡ lowest others → x ≡ lowest (recall_rules s r)
    unfolding recall_rules
    after_names h = goes_on (take 3 (recall_rules s r)) others refl q z h

    module _ {holds : ℕ} (p : holds ≡ holds_code s r) where
      pub code_holds : (holds ≡ 0 → ⊥) → holds ≡ lowest (recall_rules s r)
      unfolding recall_rules
      code_holds n = after_names (stops (take 2 others) (drop 2 others) p n)

      module _ (y : holds ≡ 0) where
        pub all_passed : Recallable s r
        all_passed = named_recallable s r (sym q ∙ z) (sym p ∙ y)

        last_code_lem : {b : Bool} → b ≡ recall_accepted s r → last_code b ≡ lowest (recall_rules s r)
        unfolding recall_rules
        last_code_lem a = after_names (goes_on (take 2 others) (drop 2 others) refl p y (ap last_code a))

        pub code_none : {b : Bool} → b ≡ recall_accepted s r → b ≡ true → 0 ≡ lowest (recall_rules s r)
        code_none a t = last_code_lem (sym t ∙ a)

        pub code_refused : {b : Bool} → b ≡ recall_accepted s r → b ≡ false → 16 ≡ lowest (recall_rules s r)
        code_refused a f = last_code_lem (sym f ∙ a)

-- a record that every rule lets pass
pub accepted_recalling : (book : List ℕ) (entry : Record) → length book ≡ book_length → entry.kind ≡ Recall → sound (state book) ≡ true → lowest (recall_rules (state book) entry.fields) ≡ 0 → Recalling book entry
accepted_recalling book entry l k s z = record { long = l; sound_book = s; kind_is = k; recallable = accepted_recallable (state book) entry.fields z }

-- the step and its answer
pub recall_whole : (s : State) (r : List ℕ) {t u : State} {o : Outcome} → t ≡ recalled s r → o ≡ substitutes s r → u ≡ pledge t (field r 1) o.nominals
    → (◌≡◌ {A = Totals} (record { a = 0; b = o.count; m = o.value }) (totals_of (recall s r))) × (u ≡ (recall s r).state)
unfolding recall substituted
recall_whole s r q n p = (rw n, p ∙ rw (q, n))
