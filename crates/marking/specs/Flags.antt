-- Flags of exposures that gave back: what they tell, and how they count.
-- Assumes nothing.
use Rattle.std.specs.Prelude.{◌≡◌, Bool, false, ◌||◌, List, ℕ, ◌<◌, get_or}

-- a flag for each exposure: whether it passes a test
pub record FlagsOf (test : ℕ → Bool) (flags : List Bool) : Type 0 where
  pub each : (e : ℕ) → e < 64 → get_or flags e false ≡ test e

-- an exposure has a flag from before or passes a test
abbrev pub flagged_or : List Bool → (ℕ → Bool) → ℕ → Bool
flagged_or flags test e = get_or flags e false || test e
