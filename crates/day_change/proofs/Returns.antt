-- What the outcome of the test for a next day shows: there may be none.
-- Assumes nothing.
use mathlib.Core.Path.{◌≡◌, refl}
use mathlib.Core.Bool.{Bool, true, false, cond}
use Prim.Native.Nat.{ℕ}
use lib.Dec.{leb}
use borrow.Author.Tests.{leb-true, leb-false, lt-ltb, le-ltb}
use Rattle.std.specs.Prelude.{Some, None}
use Rattle.calendar.specs.Target.{last_day, next_open_day}
use Rattle.calendar.specs.Outcome.{open_day_after}
use Rattle.book.specs.Layout.{today}
use Rattle.book.specs.State.{State}
use Rattle.rules.specs.Codes.{next_day_rules}
use Rattle.rules.specs.Outcome.{lowest}

module _ (s : State) {t : ℕ} (tq : t ≡ s today 0) where
  pub no_next_day : None ≡ open_day_after t → 7 ≡ lowest (next_day_rules s)
  unfolding next_day_rules
  no_next_day h = go (leb (next_open_day t) last_day) refl h
    where
      go : (b : Bool) → leb (next_open_day t) last_day ≡ b → None ≡ cond b (Some (next_open_day t)) None → 7 ≡ lowest (next_day_rules s)
      go true e h = absurd (cc)
      go false e h = rw (← tq, lt-ltb last_day (next_open_day t) (leb-false (next_open_day t) last_day e))

  pub a_next_day : {n : ℕ} → Some n ≡ open_day_after t → 0 ≡ lowest (next_day_rules s)
  unfolding next_day_rules
  a_next_day {n} h = go (leb (next_open_day t) last_day) refl h
    where
      go : (b : Bool) → leb (next_open_day t) last_day ≡ b → Some n ≡ cond b (Some (next_open_day t)) None → 0 ≡ lowest (next_day_rules s)
      go true e h = rw (← tq, le-ltb last_day (next_open_day t) (leb-true (next_open_day t) last_day e))
      go false e h = absurd (cc)
