-- The slot of an exposure's key, and the hints: used exposures at the slots of their keys.
-- Assumes nothing.
use Rattle.std.specs.Prelude.{cond, List, ℕ, zero, suc, eqb, set}
use Rattle.book.specs.Layout.{in_use}
use Rattle.book.specs.State.{State}
use Rattle.exposure_search.specs.Keys.{key_of, key_slot}
use Rattle.exposure_search.specs.declared.ExposureKey.{ExposureKey}

-- the slot of a key, and of that of the exposure e
abbrev pub slot_of_key : ExposureKey → ℕ
slot_of_key key = key_slot key.giver key.taker key.basket key.closing

abbrev pub slot_of : State → ℕ → ℕ
slot_of s e = slot_of_key (key_of s e)

-- the hints with the exposure e at its key's slot, where it is used
abbrev pub with_hint : State → ℕ → List ℕ → List ℕ
with_hint s e hints = cond (eqb (s in_use e) 1) (set hints (slot_of s e) e) hints

-- the hints with every used exposure below n at its key's slot, a later one over an earlier one
unfoldable pub with_hints : State → List ℕ → ℕ → List ℕ
with_hints s hints zero = hints
with_hints s hints (suc e) = with_hint s e (with_hints s hints e)
