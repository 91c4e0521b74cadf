-- The keys of the exposures by their marks.
-- Assumes nothing.
use Rattle.std.specs.Prelude.{Bool, true, false, List, ◌≡◌, ℕ, ◌<◌, length, get_or}
use Rattle.book.specs.Layout.{in_use}
use Rattle.book.specs.State.{State}
use Rattle.exposure_search.specs.Slots.{slot_of}

-- the keys of the used exposures before e are marked, each at its slot
pub record KeysMarked (s : State) (marks : List Bool) (e : ℕ) : Type 0 where
  pub long : length marks ≡ 1024
  pub each : (d : ℕ) → d < e → s in_use d ≡ 1 → get_or marks (slot_of s d) false ≡ true
