-- The outcome of a call, as its answer.
-- Assumes nothing.
use Rattle.std.specs.Prelude.{Result, Ok, Err}
use Rattle.answers.specs.declared.Refusal.{Refusal}
use Rattle.answers.specs.Refusals.{number}
use Rattle.rules.specs.Outcome.{Answer, answer}
use Rattle.totals.specs.declared.Totals.{Totals}

-- code 0 with A, B and M of an accepted call; the code of a refusal, and "the answer's other fields are 0"
abbrev pub answer_of : Result Totals Refusal → Answer
answer_of (Ok t) = answer 0 t.a t.b t.m
answer_of (Err r) = answer (number r) 0 0 0
