-- The outcomes of the searches and of the stand-alone functions.
-- Assumes nothing.
use Rattle.std.specs.Prelude.{Bool, cond, Option, Some, None, ℕ, leb, Result, Ok, Err}
use Rattle.answers.specs.declared.Refusal.{Refusal}
use Rattle.calendar.specs.Gregorian.{one_if}
use Rattle.calendar.specs.Target.{last_day, next_open_day}

-- an outcome of yes or no with 1 for yes and 0 for no
abbrev pub as_number : Result Bool Refusal → Result ℕ Refusal
as_number (Ok b) = Ok (one_if b)
as_number (Err r) = Err r

-- the next open day after a day, where there is one
abbrev pub open_day_after : ℕ → Option ℕ
open_day_after d = cond (leb (next_open_day d) last_day) (Some (next_open_day d)) None
