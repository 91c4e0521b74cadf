-- What a host gets of the outcomes of Pick and Free.
-- Assumes nothing.
use Rattle.std.specs.Prelude.{Result, Ok, Err}
use Rattle.answers.specs.declared.Refusal.{Refusal}
use Rattle.answers.specs.Refusals.{number}
use Rattle.picking.specs.declared.Freed.{Freed}
use Rattle.picking.specs.declared.Outcome.{Outcome}
use Rattle.picking_calls.specs.Answers.{pick_refused, free_refused}
use Rattle.picking_calls.specs.declared.FreeAnswer as free
use Rattle.picking_calls.specs.declared.PickAnswer as pick

-- code 0 and the outcome of a pick, or the code of a refusal and zeros
abbrev pub pick_answer : Result Outcome Refusal → pick.PickAnswer
pick_answer (Ok o) = record { code = 0; outcome = o }
pick_answer (Err r) = pick_refused (number r)

-- and of a free
abbrev pub free_answer : Result Freed Refusal → free.FreeAnswer
free_answer (Ok o) = record { code = 0; freed = o }
free_answer (Err r) = free_refused (number r)
