-- What the arrays of a recall count on, and when it is accepted.
-- Assumes nothing.
use mathlib.Core.Path.{◌≡◌, refl, sym, ◌∙◌}
use mathlib.Core.Bool.{true}
use mathlib.Core.List.{List}
use Prim.Native.Nat.{ℕ, ◌+◌, ◌*◌, ◌-◌, ◌≤◌, ◌<◌}
use native.Mathlib.Nat.{le_refl}
use native.Mathlib.Omega.{arith}
use lib.Dec.{leb}
use lib.ListN.{get_or}
use borrow.Author.Tests.{lt-ltb, le-ltb}
use Rattle.laws.proofs.Filled.{filled_at}
use Rattle.baskets.specs.Fresh.{eligible_by, EligibilityFor}
use Rattle.baskets.specs.declared.Basket.{Basket}
use Rattle.baskets.specs.declared.Eligibility.{Eligibility}
use Rattle.picking.specs.Pick.{picked, but_not}
use Rattle.picking.specs.declared.Outcome.{Outcome}
use Rattle.picking.proofs.Picks.{picked_eligible_but}
use Rattle.securities.specs.Position.{worth, nominals_of}
use Rattle.securities.specs.Bounds.{AllInBounds, Within}
use Rattle.securities.proofs.Positions.{sum_worth_le}
use Rattle.book.specs.Layout.{today, tolerance, exposure_givers, exposure_baskets, exposure_amounts, accounts}
use Rattle.book.specs.State.{State, state, row_at, columns_of}
use Rattle.rules.specs.Marking.{recalled, substitutes, substituted, recall_accepted}
use Rattle.rules.specs.Fields.{field}
use Rattle.rules.specs.Stock.{basket_of, position_of, value_of}
use Rattle.book.proofs.Images.{state_fits}
use Rattle.records.specs.declared.record.Record.{Record}
use Rattle.facts.proofs.Written.{sound_facts}
use Rattle.facts.specs.Good.{Sound, Good}
use Rattle.facts.proofs.Rows.{Exposure, used_exposure, head_facts}
use Rattle.facts.proofs.Stock.{account_at, position_at, account_le, age_le, columns_bounded, position_within, account_within}
use Rattle.marking_laws.specs.Recalled.{added, account_after, position_left}
use Rattle.marking_laws.proofs.Marking.{kept_recalled, kept_substituted}
use Rattle.marking_laws.proofs.Ranges.{RecallIn, recall_in}
use Rattle.marking_laws.proofs.Recalls.{account_after_lem, position_left_lem, position_after, substitutes_on_arrays, value_after}
use Rattle.substitution.specs.Recalling.{Recalling}

-- what the arrays count on
module _ {book : List ℕ} {entry : Record} (k : Recalling book entry) where
  pub facts_of : Sound (state book)
  facts_of = sound_facts (state book) k.sound_book

  pub ranges_of : RecallIn entry.fields
  ranges_of = recall_in entry.fields (rw k.kind_is at entry.legal)

  pub exposure_in : field entry.fields 1 < 64
  exposure_in = omega (arith, ranges_of.exposure)

  pub security_in : field entry.fields 2 < 64
  security_in = omega (arith, ranges_of.security)

  pub bounded_in : {columns : List ℕ} → columns ≡ columns_of (state book) → AllInBounds columns
  bounded_in q = rw q (columns_bounded (state book) facts_of)

  -- the exposure that is recalled from
  used_in : Exposure (state book) (field entry.fields 1)
  used_in = used_exposure (state book) (field entry.fields 1) (facts_of.exposure (field entry.fields 1) exposure_in) k.recallable.used

  pub basket_in : state book exposure_baskets (field entry.fields 1) < 16
  basket_in = used_in.basket_below

  pub oldest_in : {b : Basket} → b ≡ basket_of (state book) (field entry.fields 1) → b.oldest ≤ 255
  oldest_in h = rw h (age_le (state book) facts_of (state book exposure_baskets (field entry.fields 1)) basket_in)

  pub row_within_in : {row : List ℕ} → row ≡ position_of (state book) (field entry.fields 1) → Within (nominals_of row)
  row_within_in q = rw q (position_within (state book) facts_of (field entry.fields 1) exposure_in)

  pub giver_in_lem : {g : ℕ} → g ≡ state book exposure_givers (field entry.fields 1) → g < 32
  giver_in_lem q = rw q used_in.parties.giver_below

  -- the numbers that are raised and lowered
  pub account_small : {g : ℕ} {row : List ℕ} → g ≡ state book exposure_givers (field entry.fields 1) → row ≡ row_at (state book) accounts (64 * g) → get_or row (field entry.fields 2) 0 ≤ 500000000
  account_small {g} q p =
      rw (p, account_at (state book) g (field entry.fields 2) security_in) (account_le (state book) facts_of g (field entry.fields 2) (giver_in_lem q) security_in)

  pub position_enough : {row : List ℕ} → row ≡ position_of (state book) (field entry.fields 1) → field entry.fields 3 ≤ get_or row (field entry.fields 2) 0
  position_enough p = rw (p, position_at (state book) (field entry.fields 1) (field entry.fields 2) security_in) k.recallable.holds

  pub tolerance_in : {t : ℕ} → t ≡ state book tolerance 0 → t ≤ 100000000
  tolerance_in q = rw q (head_facts (state book) facts_of.head).tolerance_high

  -- what the code finds is what the definition gives
  pub substitutes_found : {columns account left : List ℕ} {b : Basket} {y : Eligibility} {day v x n : ℕ} {o : Outcome} → columns ≡ columns_of (state book) → left ≡ position_left (state book) entry.fields
      → v ≡ worth columns (nominals_of left) → x ≡ state book exposure_amounts (field entry.fields 1) → n ≡ x - v → account ≡ account_after (state book) entry.fields → b ≡ basket_of (state book) (field entry.fields 1)
      → day ≡ state book today 0 → EligibilityFor b day columns y → o ≡ picked columns account (but_not (field entry.fields 2) (eligible_by y columns)) n → o ≡ substitutes (state book) entry.fields
  substitutes_found {columns} {account} {n = n} c l w a m p b d f q =
      rw (m, a, w, l, p, b, d, c) at (q ∙ picked_eligible_but columns account n f (field entry.fields 2))
      ∙ sym (substitutes_on_arrays (state book) entry.fields security_in)

  pub value_found : {columns left position : List ℕ} {o : Outcome} {v : ℕ} → columns ≡ columns_of (state book) → left ≡ position_left (state book) entry.fields → o ≡ substitutes (state book) entry.fields
      → position ≡ added left o.nominals → v ≡ worth columns (nominals_of position) → v ≡ value_of (substituted (state book) entry.fields) (field entry.fields 1)
  value_found c l o p q = rw (p, l, o, c) at q ∙ sym (value_after (state book) entry.fields security_in)

  module _ (small : (i : ℕ) → get_or book i 0 < 256) where
    pub good_in : Good (state book)
    good_in = record { facts = facts_of; fits = state_fits book k.long small }

    pub left_within : {row : List ℕ} → row ≡ position_left (state book) entry.fields → Within (nominals_of row)
    left_within p =
        rw (p, ← position_left_lem (state book) entry.fields security_in)
        (position_within (recalled (state book) entry.fields) (kept_recalled (state book) entry.fields good_in ranges_of k.recallable).good.facts (field entry.fields 1) exposure_in)

    pub after_within : {row : List ℕ} → row ≡ account_after (state book) entry.fields → Within (nominals_of row)
    after_within p =
        rw (p, ← account_after_lem (state book) entry.fields security_in)
        (account_within (recalled (state book) entry.fields) (kept_recalled (state book) entry.fields good_in ranges_of k.recallable).good.facts (state book exposure_givers (field entry.fields 1)) (giver_in_lem refl))

    pub sum_within : {left : List ℕ} {o : Outcome} → left ≡ position_left (state book) entry.fields → o ≡ substitutes (state book) entry.fields → Within (nominals_of (added left o.nominals))
    sum_within l o =
        rw (l, o, ← position_after (state book) entry.fields security_in)
        (position_within (substituted (state book) entry.fields) (kept_substituted (state book) entry.fields good_in ranges_of k.recallable).good.facts (field entry.fields 1) exposure_in)

-- one position is worth at most 9.6 × 10^12
pub worth_le : (columns nominals : List ℕ) {v : ℕ} → AllInBounds columns → Within (nominals_of nominals) → v ≡ worth columns (nominals_of nominals) → v ≤ 9600000000000
unfolding worth
worth_le columns nominals b w q = omega (arith, q, sum_worth_le columns b (nominals_of nominals) w 64 (le_refl 64))

-- each of 64 sums within a bound
pub sum_small : (l by : List ℕ) → Within (nominals_of (added l by)) → (i : ℕ) → i < 64 → get_or l i 0 + get_or by i 0 ≤ 500000000
sum_small l by w i h = rw (filled_at (λ i. get_or l i 0 + get_or by i 0) 64 64 i (le_refl 64) h) at (w.within i h)

-- "the new value plus tolerance exceeds the exposure, or the new value is no lower than before"
module _ (s : State) (r : List ℕ) {after x t : ℕ} (v : after ≡ value_of (substituted s r) (field r 1)) (a : x ≡ s exposure_amounts (field r 1)) (u : t ≡ s tolerance 0) where
  pub accepted_above : x < after + t → true ≡ recall_accepted s r
  unfolding recall_accepted
  accepted_above l = rw (lt-ltb (s exposure_amounts (field r 1)) (value_of (substituted s r) (field r 1) + s tolerance 0) (rw (v, a, u) at l))

  pub accepted_else : {columns row : List ℕ} {before : ℕ} → after + t ≤ x → columns ≡ columns_of s → row ≡ position_of s (field r 1) → before ≡ worth columns (nominals_of row)
      → leb before after ≡ recall_accepted s r
  unfolding recall_accepted
  accepted_else l c p w = rw (le-ltb (s exposure_amounts (field r 1)) (value_of (substituted s r) (field r 1) + s tolerance 0) (rw (v, a, u) at l), v, w, c, p)
