-- What a host gets of the outcome of a report.
-- Assumes nothing.
use Rattle.std.specs.Prelude.{Result, Ok, Err}
use Rattle.answers.specs.declared.Refusal.{Refusal}
use Rattle.answers.specs.Refusals.{number}
use Rattle.baskets.specs.declared.Summary.{Summary}
use Rattle.baskets.specs.declared.Report as declared

-- code 0 and what the map tells, or the code of a refusal and zeros
abbrev pub reported : Result Summary Refusal → declared.Report
reported (Ok s) = record { code = 0; count = s.count; lowest = s.lowest }
reported (Err r) = record { code = number r; count = 0; lowest = 0 }
