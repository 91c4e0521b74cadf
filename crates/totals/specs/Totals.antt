-- The numbers that a step answers, in the form in which functions return them.
-- Assumes nothing.
use Rattle.rules.specs.Outcome.{Step}
use Rattle.totals.specs.declared.Totals as declared

-- A, B and M of a step
abbrev pub totals_of : Step → declared.Totals
totals_of t = record { a = t.a; b = t.b; m = t.m }
