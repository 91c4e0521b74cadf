-- What each return of the tests of a host's numbers shows, and what the tests are worth to the functions behind them.
-- Assumes nothing.
use mathlib.Core.Path.{◌≡◌}
use mathlib.Core.Bool.{Bool, true, false, ◌&&◌, and-false, and-true}
use mathlib.Core.List.{List}
use mathlib.Core.Logic.{⊎_elim}
use Prim.Native.Nat.{ℕ, ◌≤◌, ◌<◌}
use native.Mathlib.Nat.{le_refl}
use native.Mathlib.Omega.{arith}
use lib.Dec.{eqb, leb}
use lib.ListN.{get_or}
use borrow.Author.Tests.{eq-eqb, ne_eqb, eqb-true, le-leb, lt-leb, leb-true}
use Rattle.laws.proofs.Cases.{and_left, and_right, or_cases}
use Rattle.laws.proofs.Least.{all_at}
use Rattle.calendar.specs.Target.{open_day}
use Rattle.valuation.specs.Value.{legal_pricing}
use Rattle.valuation.proofs.Laws.{legal_bounded}
use Rattle.securities.specs.declared.Security.{Security}
use Rattle.securities.specs.Security.{security_at, is_blank, is_listed, legal_security, legal_quote, legal_at, legal_securities}
use Rattle.securities.specs.Bounds.{InBounds, AllInBounds, Within}
use Rattle.securities.specs.Position.{nominals_of, legal_nominal_at, legal_nominals}

module _ (s : Security) where
  module _ (today : ℕ) where
    pub no_quote : s.lot ≡ 0 → true ≡ legal_quote today s
    unfolding legal_quote
    no_quote l = rw (eq-eqb s.lot 0 l)

    pub quoted_today : (s.lot ≡ 0 → ⊥) → s.quote ≡ today → open_day today ≡ true → true ≡ legal_quote today s
    unfolding legal_quote
    quoted_today l e o = rw (ne_eqb s.lot 0 l, e, o, le-leb today today (le_refl today))

    pub late_quote : (s.lot ≡ 0 → ⊥) → today < s.quote → false ≡ legal_quote today s
    unfolding legal_quote
    late_quote l h = rw (ne_eqb s.lot 0 l, lt-leb s.quote today h, and-false)

    pub by_quote : {b : Bool} → (s.lot ≡ 0 → ⊥) → s.quote ≤ today → b ≡ open_day s.quote → b ≡ legal_quote today s
    unfolding legal_quote
    by_quote l h e = rw (ne_eqb s.lot 0 l, le-leb s.quote today h, and-true (open_day s.quote)) e

  -- legal numbers are sound
  blank_in_bounds : is_blank s ≡ true → InBounds s
  blank_in_bounds h =
      let rest = and_right (eqb s.lot 0) (eqb s.pricing.price 0 && (eqb s.pricing.haircut 0 && eqb s.quote 0)) h in
      let more = and_right (eqb s.pricing.price 0) (eqb s.pricing.haircut 0 && eqb s.quote 0) rest in
      let lot : s.lot ≡ 0 = eqb-true s.lot 0 (and_left (eqb s.lot 0) (eqb s.pricing.price 0 && (eqb s.pricing.haircut 0 && eqb s.quote 0)) h) in
      let price : s.pricing.price ≡ 0 = eqb-true s.pricing.price 0 (and_left (eqb s.pricing.price 0) (eqb s.pricing.haircut 0 && eqb s.quote 0) rest) in
      let haircut : s.pricing.haircut ≡ 0 = eqb-true s.pricing.haircut 0 (and_left (eqb s.pricing.haircut 0) (eqb s.quote 0) more) in
      record { lot_le = omega arith; bounded = record { price_le = omega arith; haircut_le = omega arith }; priced = λ p. absurd (omega arith) }

  listed_in_bounds : is_listed s ≡ true → InBounds s
  listed_in_bounds h =
      let rest = and_right (leb 1 s.lot) (leb s.lot 1000000 && legal_pricing s.pricing) h in
      let pricing : legal_pricing s.pricing ≡ true = and_right (leb s.lot 1000000) (legal_pricing s.pricing) rest in
      record {
        lot_le = leb-true s.lot 1000000 (and_left (leb s.lot 1000000) (legal_pricing s.pricing) rest);
        bounded = legal_bounded s.pricing pricing;
        priced = λ p. leb-true 1 s.pricing.price (and_left (leb 1 s.pricing.price) (leb s.pricing.price 3000000 && leb s.pricing.haircut 9999) pricing);
      }

  pub legal_in_bounds : legal_security s ≡ true → InBounds s
  unfolding legal_security
  legal_in_bounds h = ⊎_elim blank_in_bounds listed_in_bounds (or_cases (is_blank s) (is_listed s) h)

-- the same of all 64
module _ (columns : List ℕ) where
  pub all_in_bounds : legal_securities columns ≡ true → AllInBounds columns
  all_in_bounds h = record { in_bounds = λ i l. legal_in_bounds (security_at columns i) (all_at (legal_at columns) 64 0 h i (omega arith) (omega arith)) }

pub all_within : (l : List ℕ) → legal_nominals l ≡ true → Within (nominals_of l)
all_within l h = record {
  within = λ i b. leb-true (get_or l i 0) 500000000 (all_at (legal_nominal_at l) 64 0 h i (omega arith) (omega arith));
}
