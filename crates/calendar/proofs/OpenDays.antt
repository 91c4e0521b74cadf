-- Laws of open days, for callers.
-- Assumes nothing.
use mathlib.Core.Path.{◌≡◌}
use mathlib.Core.Bool.{true, false, cond}
use lib.Dec.{leb}
use Prim.Native.Nat.{ℕ, ◌+◌, ◌-◌, ◌≤◌, ◌<◌}
use native.Mathlib.Decide.{dec_le}
use native.Mathlib.Omega.{arith}
use native.Mathlib.Nat.{lt_of_not-le, le_of_suc-le-suc}
use borrow.Author.Tests.{lt-ltb, lt-leb, le-leb}
use Rattle.std.specs.Prelude.{Option, Some, None}
use Rattle.std.specs.Option.{MatchOption, unwrap_or}
use Rattle.laws.specs.Search.{least}
use Rattle.laws.proofs.Ranges.{IsLeastOf, least_le}
use Rattle.laws.proofs.Cases.{clash}
use Rattle.calendar.specs.Target.{open_day, next_open_day, last_day}
use Rattle.calendar.specs.Outcome.{open_day_after}

-- no day past the last one is open
pub past_closed : (d : ℕ) → last_day < d → open_day d ≡ false
unfolding open_day
past_closed d h = rw (lt-ltb last_day d h)

pub open_within : (d : ℕ) → open_day d ≡ true → d ≤ last_day
open_within d e = le_of_suc-le-suc (lt_of_not-le (λ h. clash e (past_closed d h)))

-- where a search up to the last day finds a day, it is the next open day
found_is : (n : ℕ) (r : Option ℕ) → MatchOption r (n ≡ last_day + 1) (λ j. (n ≡ j) × (j < last_day + 1)) → r ≡ cond (leb n last_day) (Some n) None
found_is n None e = rw (lt-leb n last_day (omega arith))
found_is n (Some j) e = rw (e.0, le-leb j last_day (omega (arith, e.1)))

pub after_from_least : (d : ℕ) (r : Option ℕ) → d ≤ last_day → IsLeastOf open_day (d + 1) (last_day + 1) r → r ≡ open_day_after d
unfolding next_open_day
after_from_least d r h i =
    let n : last_day + 1 - (d + 1) ≡ last_day - d = omega arith in
    found_is (least open_day (last_day - d) (d + 1)) r (by r (rw n at i))
  where
    by : (o : Option ℕ) → MatchOption o (least open_day (last_day - d) (d + 1) ≡ last_day + 1) (λ j. (least open_day (last_day - d) (d + 1) ≡ j) × (d + 1 ≤ j) × (j < last_day + 1) × (open_day j ≡ true))
        → MatchOption o (least open_day (last_day - d) (d + 1) ≡ last_day + 1) (λ j. (least open_day (last_day - d) (d + 1) ≡ j) × (j < last_day + 1))
    by None e = e
    by (Some j) e = (e.0, e.2)

-- where there is none, the day after the last stands for it
pub unwrap_after : (d : ℕ) {r : Option ℕ} → d ≤ last_day → r ≡ open_day_after d → unwrap_or r (last_day + 1) ≡ next_open_day d
unfolding next_open_day
unwrap_after d h e =
    let bound = least_le open_day (last_day - d) (d + 1) in
    let next : ℕ = least open_day (last_day - d) (d + 1) in
    rw e (elim (dec_le next last_day) [
      | yes k ↦ rw (le-leb next last_day k)
      | no k ↦ rw (lt-leb next last_day (lt_of_not-le k)) (omega (arith, bound, lt_of_not-le k))
    ])
