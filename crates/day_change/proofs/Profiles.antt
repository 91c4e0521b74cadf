-- Profiles in a day change: the one that waits goes over, and no change touches the others.
-- Assumes nothing.
use mathlib.Core.Path.{◌≡◌, refl, sym, ◌∙◌}
use Prim.Native.Nat.{ℕ, ◌<◌}
use native.Mathlib.Omega.{arith}
use borrow.Author.Tests.{ne_eqb}
use Rattle.book.specs.Layout.{modes, lists, partials, waiting_modes, waiting_lists, waiting_partials, waiting_tables}
use Rattle.book.specs.State.{State, put, clear_row}
use Rattle.rules.specs.DayChange.{change_takes_effect}
use Rattle.day_rows.specs.Parts.{tried}
use Rattle.day_change.specs.Parts.{profile_waits}

-- a profile's change reads and changes its own row
pub profiles_apart : (s : State) (j i : ℕ) → j < i → profile_waits (change_takes_effect s j) i ≡ profile_waits s i
profiles_apart s j i l = rw (ne_eqb i j (λ e. omega arith))

-- the waiting profile goes over and is cleared
pub cleared_profile : (s : State) (p : ℕ) → clear_row (put (put (put s modes p (s waiting_modes p)) lists p (s waiting_lists p)) partials p (s waiting_partials p)) waiting_tables p ≡ change_takes_effect s p
cleared_profile s p = refl

module _ (s : State) (p : ℕ) {x : ℕ} (xq : x ≡ s waiting_modes p) where
  pub profile_changed : {t : State} → (x ≡ 0 → ⊥) → t ≡ change_takes_effect s p → t ≡ tried profile_waits change_takes_effect s p
  profile_changed n q = rw (ne_eqb (s waiting_modes p) 0 (rw xq at n)) q

  pub profile_kept : x ≡ 0 → s ≡ tried profile_waits change_takes_effect s p
  profile_kept z = rw (sym xq ∙ z)
