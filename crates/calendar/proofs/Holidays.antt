-- The holidays by their numbers in the year.
-- Assumes nothing.
use mathlib.Core.Path.{◌≡◌}
use mathlib.Core.Bool.{Bool, false, ◌||◌}
use Prim.Native.Nat.{ℕ, ◌+◌, ◌≤◌, ◌<◌}
use native.Mathlib.Omega.{arith}
use lib.Dec.{eqb}
use borrow.Author.Tests.{ne_eqb, le-leb}
use Rattle.laws.specs.Search.{between}
use Rattle.laws.proofs.Cases.{clash}
use Rattle.calendar.specs.Gregorian.{date_of}
use Rattle.calendar.specs.Easter.{easter}
use Rattle.calendar.specs.Target.{easter_holiday, holiday}
use Rattle.calendar.proofs.EasterTable.{easter_range}

pub may : (leap : ℕ) → date_of leap 5 1 ≡ 121 + leap
may leap = omega arith

pub christmas : (leap : ℕ) → date_of leap 12 25 ≡ 359 + leap
christmas leap = omega arith

pub next_christmas : (leap : ℕ) → date_of leap 12 26 ≡ 360 + leap
next_christmas leap = omega arith

last_first : (b x y z : Bool) → (b || (x || (y || z))) ≡ (x || (y || (z || b)))
last_first b x y z = grind arith

-- the fixed holidays before Easter's
pub holiday_by_number : (leap e n : ℕ) → holiday leap e n
    ≡ (eqb n 1 || (eqb n (121 + leap) || (eqb n (359 + leap) || (eqb n (360 + leap) || easter_holiday e n))))
unfolding holiday
holiday_by_number leap e n = rw (may leap, christmas leap, next_christmas leap, last_first (easter_holiday e n))

-- Easter Sunday is between the days 81 and 115, so its holidays are between 79 and 116
module _ (k n : ℕ) (h : k < 400) where
  pub out_of_spring : between 79 116 n ≡ false → false ≡ easter_holiday (easter (2002 + k)) n
  out_of_spring l =
      let r = easter_range k h in
      let inside : 79 ≤ n → n ≤ 116 → ⊥ = λ a b. clash (rw (le-leb 79 n a, le-leb n 116 b)) l in
      let friday : n + 2 ≡ easter (2002 + k) → ⊥ = λ q. inside (omega arith) (omega arith) in
      let monday : n ≡ easter (2002 + k) + 1 → ⊥ = λ q. inside (omega arith) (omega arith) in
      rw (ne_eqb (n + 2) (easter (2002 + k)) friday, ne_eqb n (easter (2002 + k) + 1) monday)
