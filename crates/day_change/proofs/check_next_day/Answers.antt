-- `day_change::check_next_day` meets its contract.
-- Assumes nothing.
use native.Mathlib.Omega.{arith}
use Rattle.book.specs.State.{state}
use Rattle.facts.proofs.Written.{sound_facts}
use Rattle.facts.proofs.Stock.{today_le}
use Rattle.day_change.proofs.Returns.{no_next_day, a_next_day}
use Rattle.day_change.proofs.check_next_day.Goals as goal

pub open_day_after-requires : goal.open_day_after-requires
open_day_after-requires c =
    omega (arith, c.get-today.ensures, today_le (state c.args.book.now) (sound_facts (state c.args.book.now) c.requires))

pub returns-in-Some : goal.returns-in-Some
returns-in-Some c = a_next_day _ c.get-today.ensures c.in-Some.ensures

pub returns-in-None : goal.returns-in-None
returns-in-None c = no_next_day _ c.get-today.ensures c.in-None.ensures
