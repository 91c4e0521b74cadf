-- Open days at hand.
-- Assumes nothing.
use Rattle.std.specs.Prelude.{true, List, ◌≡◌, ℕ, ◌<◌, get_or}
use Rattle.calendar.specs.Target.{open_day}

-- sixteen days, each of them open
abbrev pub AreOpen : List ℕ → Type 0
AreOpen days = (k : ℕ) → k < 16 → open_day (get_or days k 0) ≡ true
