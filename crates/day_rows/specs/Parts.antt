-- What dropping a row counts on, and what the parts of a day change do to one row.
-- Assumes nothing.
use Rattle.std.specs.Prelude.{◌≡◌, Bool, cond, ℕ, ◌<◌}
use Rattle.book.specs.Layout.{request_kinds, baskets_or_exposures}
use Rattle.book.specs.State.{State}
use Rattle.rules.specs.DayChange.{is_done, is_closed_fop, is_closed_return}
use Rattle.day_rows.specs.declared.Pass.{Pass}
use Rattle.day_rows.specs.declared.Pass.TheVariants.{Done, ClosedFops, ClosedReturns}

-- the test of each pass that drops rows
abbrev pub drops : Pass → State → ℕ → Bool
drops Done = is_done
drops ClosedFops = is_closed_fop
drops ClosedReturns = is_closed_return

-- a step at a row where a test of the state holds there
abbrev pub tried : (State → ℕ → Bool) → (State → ℕ → State) → State → ℕ → State
tried test step s i = cond (test s i) (step s i) s

-- a return names one of the 64 exposure rows
pub record ReturnNamed (s : State) (i : ℕ) : Type 0 where
  pub named : s request_kinds i ≡ 7 → s baskets_or_exposures i < 64
