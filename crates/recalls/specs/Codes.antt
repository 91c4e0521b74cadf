-- The codes of a recall before its last.
-- Assumes nothing.
use Rattle.std.specs.Prelude.{List, ℕ, take, drop}
use Rattle.book.specs.State.{State}
use Rattle.rules.specs.Codes.{recall_rules}
use Rattle.rules.specs.Outcome.{lowest}

-- the first three rules, of the lots and of what is set up; the two of the exposure and what it holds
abbrev pub names_code : State → List ℕ → ℕ
names_code s r = lowest (take 3 (recall_rules s r))

abbrev pub holds_code : State → List ℕ → ℕ
holds_code s r = lowest (take 2 (drop 3 (recall_rules s r)))
