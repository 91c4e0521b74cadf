-- `calendar::year_day` meets its contract: 400 years have 146,097 days, so the quotient is the year or the one before.
-- Assumes nothing.
use Prim.Native.Nat.{ℕ, ◌+◌, ◌-◌, ◌*◌, ◌/◌, ◌≤◌}
use mathlib.Core.Path.{◌≡◌, ap, ◌∙◌}
use native.Mathlib.Omega.{arith}
use Rattle.calendar.specs.Gregorian.{start_of, year_of, leap_day, day_of_year}
use Rattle.calendar.specs.YearDay.{year_day}
use Rattle.calendar.specs.declared.YearDay as declared
use Rattle.calendar.proofs.Years.{start_closed, start_next, quotient_begun, year_is, year_small}
use Rattle.calendar.proofs.year_day.Goals as goal
use Rattle.calendar.proofs.year_day.Goals.{After-start_of-after, After-start_of-start}

-- the year k with the days on which it and the next one begin
day_in : (k d : ℕ) {start next : ℕ} → start ≡ start_of k → next ≡ start_of (k + 1) → k ≡ year_of d
    → ◌≡◌ {A = declared.YearDay} (record { year = k; leap = next - start - 365; day = d - start + 1 }) (year_day d)
unfolding year_day day_of_year
day_in k d s n y =
    let l : start_of k + (365 + leap_day (2002 + k)) - start_of k - 365 ≡ leap_day (2002 + k) = omega arith in
    rw (s, n, start_next k, l, ← y)

-- the year after the quotient, and the quotient
late : (c : After-start_of-after) → 400 * c.args.day / 146097 + 1 ≡ year_of c.args.day
late c =
    let k = 400 * c.args.day / 146097 in
    let begun : start_of (k + 1) ≤ c.args.day = omega (arith, c.start_of-next.ensures) in
    year_is c.args.day (k + 1) (year_small c.args.day (k + 1) c.requires begun) begun
    (omega (arith, start_closed (k + 1 + 1)))

soon : (c : After-start_of-start) → 400 * c.args.day / 146097 ≡ year_of c.args.day
soon c =
    let k = 400 * c.args.day / 146097 in
    year_is c.args.day k (omega arith) (quotient_begun c.args.day) (omega (arith, c.start_of-next.ensures))

after : (c : After-start_of-after) → c.start_of-after.result ≡ start_of (400 * c.args.day / 146097 + 1 + 1)
after c = c.start_of-after.ensures ∙ ap start_of (omega arith)

pub start_of-after-requires : goal.start_of-after-requires
start_of-after-requires c =
    let k = 400 * c.args.day / 146097 in
    omega (arith, year_small c.args.day (k + 1) c.requires (omega (arith, c.start_of-next.ensures)))

pub overflow_sub-result : goal.overflow_sub-result
overflow_sub-result c = omega (arith, after c, c.start_of-next.ensures, start_next (400 * c.args.day / 146097 + 1))

pub overflow_sub-result-then-next-day : goal.overflow_sub-result-then-next-day
overflow_sub-result-then-next-day c = omega (arith, after c, c.start_of-next.ensures, start_next (400 * c.args.day / 146097 + 1))

pub overflow_sub-result-else-next-day : goal.overflow_sub-result-else-next-day
overflow_sub-result-else-next-day c = omega (arith, c.start_of-start.ensures, c.start_of-next.ensures, start_next (400 * c.args.day / 146097))

pub overflow_sub-result-else-next-day-2 : goal.overflow_sub-result-else-next-day-2
overflow_sub-result-else-next-day-2 c = omega (arith, c.start_of-start.ensures, c.start_of-next.ensures, start_next (400 * c.args.day / 146097))

pub overflow_sub-result-else-next-day-3 : goal.overflow_sub-result-else-next-day-3
overflow_sub-result-else-next-day-3 c = omega (arith, c.start_of-start.ensures, quotient_begun c.args.day)

pub returns-then-next-day : goal.returns-then-next-day
returns-then-next-day c = day_in _ _ c.start_of-next.ensures (after c) (late c)

pub returns-else-next-day : goal.returns-else-next-day
returns-else-next-day c = day_in _ _ c.start_of-start.ensures c.start_of-next.ensures (soon c)
