-- A test with at most one security left out.
-- Assumes nothing.
use Rattle.std.specs.Prelude.{Bool, Option, Some, None, ℕ}
use Rattle.picking.specs.Pick.{but_not}

-- the test itself where none is left out
abbrev pub but : Option ℕ → (ℕ → Bool) → ℕ → Bool
but None test = test
but (Some left) test = but_not left test
