-- Document 01: "a basket's report tells how many securities it holds and the lowest of them".
-- Assumes nothing.
use Rattle.std.specs.Prelude.{Bool, true, false, not, ℕ, eqb}
use Rattle.answers.specs.Answers.{out_of_range}
use Rattle.laws.specs.Bits.{has_bit}
use Rattle.laws.specs.Search.{least, count}
use Rattle.baskets.specs.declared.Summary.{Summary}
use Rattle.baskets.specs.declared.Report as declared

-- how many securities the map holds and the lowest of them
abbrev pub summary : ℕ → Summary
summary map = record { count = count (has_bit map) 64 0; lowest = least (has_bit map) 64 0 }

abbrev report_if : Bool → ℕ → declared.Report
report_if true map = record { code = 0; count = (summary map).count; lowest = (summary map).lowest }
report_if false map = record { code = out_of_range; count = 0; lowest = 0 }

-- the summary of the map; a map of 0 is out of range
unfoldable pub report : ℕ → declared.Report
report map = report_if (not (eqb map 0)) map
