-- Laws of eligibility: the tests by the day of a quote are those by a price's age.
-- Assumes nothing.
use mathlib.Core.Path.{◌≡◌, subst}
use mathlib.Core.List.{List}
use Prim.Native.Nat.{ℕ, ◌+◌, ◌≤◌, ◌<◌}
use native.Mathlib.Decide.{ℕ_discrete}
use native.Mathlib.Omega.{arith}
use borrow.Author.Tests.{eq-eqb}
use Rattle.calendar.specs.Fresh.{FreshDays}
use Rattle.securities.specs.Security.{security_at}
use Rattle.securities.specs.declared.Security.{Security}
use Rattle.baskets.specs.Basket.{qualifies, eligible}
use Rattle.baskets.specs.Fresh.{qualifies_by, eligible_by, NoneBefore, FreshAges, EligibilityFor}
use Rattle.baskets.specs.declared.Basket.{Basket}
use Rattle.baskets.specs.declared.Eligibility.{Eligibility}

-- one security more that was not quoted before the day
pub none_first : (day : ℕ) (columns : List ℕ) → NoneBefore day 0 columns
none_first day columns = record { none = λ i l. absurd (omega arith) }

pub none_next : {day n : ℕ} {columns : List ℕ} → NoneBefore day n columns → {earlier : ℕ} {s : Security} → s ≡ security_at columns n
    → earlier ≤ day → (0 < s.lot → earlier ≤ s.quote) → NoneBefore earlier (n + 1) columns
none_next {day} {n} {columns} b {earlier} q h here = record {
  none = λ i l. elim (ℕ_discrete i n) [
    | yes e ↦ rw e (subst (λ (t : Security). 0 < t.lot → earlier ≤ t.quote) q here)
    | no d ↦ λ u. omega (arith, h, b.none i (omega arith) u)
  ];
}

-- the calendar's days serve the securities, none of which was quoted before the day where they begin
pub fresh_ages : {from today most : ℕ} {columns days : List ℕ} → NoneBefore from 64 columns → FreshDays from today most days → FreshAges columns today most days
fresh_ages {columns = columns} b f = record { each = λ g l. record { right = λ i m u. f.right g (security_at columns i).quote l (b.none i m u) } }

-- eligible by the day of the quote, eligible by the price's age
module _ {b : Basket} {today : ℕ} {columns : List ℕ} {x : Eligibility} (f : EligibilityFor b today columns x) (i : ℕ) (l : i < 64) where
  qualified_same : qualifies_by x.since (security_at columns i) ≡ qualifies b.oldest today (security_at columns i)
  unfolding qualifies qualifies_by
  qualified_same = elim (ℕ_discrete (security_at columns i).lot 0) [
    | yes z ↦ rw (eq-eqb (security_at columns i).lot 0 z)
    | no n ↦ rw (f.fresh.right i l (omega arith))
  ]

  pub eligible_same : eligible_by x columns i ≡ eligible b today columns i
  unfolding eligible eligible_by
  eligible_same = rw (f.map, qualified_same)
