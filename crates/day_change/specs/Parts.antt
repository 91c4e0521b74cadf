-- The test of a profile that waits.
-- Assumes nothing.
use Rattle.std.specs.Prelude.{Bool, not, ℕ, eqb}
use Rattle.book.specs.Layout.{waiting_modes}
use Rattle.book.specs.State.{State}

abbrev pub profile_waits : State → ℕ → Bool
profile_waits s p = not (eqb (s waiting_modes p) 0)
