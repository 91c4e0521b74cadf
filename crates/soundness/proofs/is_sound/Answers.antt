-- `soundness::is_sound` meets its contract: the three parts, and so the whole.
-- Assumes nothing.
use mathlib.Core.Path.{◌≡◌, sym, ◌∙◌}
use mathlib.Core.Bool.{Bool, true, false, ◌&&◌}
use Rattle.book.specs.State.{state}
use Rattle.rules.specs.ByRow.{sound_by_row, sound_requests, sound_exposures}
use Rattle.facts.proofs.Written.{by_row}
use Rattle.soundness.proofs.is_sound.Goals as goal
use Rattle.soundness.proofs.is_sound.Goals.{then-is_set_up_sound, else-is_set_up_sound}

-- what three tests in a row show: the first fails, the second does, the last decides
module _ {a x : Bool} (b c : Bool) (p : x ≡ a) where
  first_fails : x ≡ false → x ≡ (a && (b && c))
  first_fails h = rw (sym p ∙ h) h

  module _ (t : x ≡ true) {y : Bool} (q : y ≡ b) where
    second_fails : y ≡ false → y ≡ (a && (b && c))
    second_fails h = rw (sym p ∙ t, sym q ∙ h) h

    last_decides : y ≡ true → {z : Bool} → z ≡ c → z ≡ (a && (b && c))
    last_decides h e = rw (sym p ∙ t, sym q ∙ h) e

pub returns-then-are_requests_sound : goal.returns-then-are_requests_sound
unfolding sound_by_row
returns-then-are_requests_sound c = elim c.if-is_set_up_sound.branch [
  | then-is_set_up_sound w ↦
      last_decides _ _ c.is_set_up_sound.ensures w.if-is_set_up_sound.true w.are_requests_sound.ensures (sym w.value-is ∙ c.if-are_requests_sound.true) c.are_exposures_sound.ensures
      ∙ by_row _
  | else-is_set_up_sound w ↦ let both : true ≡ false = sym c.if-are_requests_sound.true ∙ w.value-is ∙ w.if-is_set_up_sound.false in absurd (cc)
]

pub returns-else-are_requests_sound : goal.returns-else-are_requests_sound
unfolding sound_by_row
returns-else-are_requests_sound c = elim c.if-is_set_up_sound.branch [
  | then-is_set_up_sound w ↦
      w.value-is ∙ second_fails _ (sound_exposures (state c.args.book.now)) c.is_set_up_sound.ensures w.if-is_set_up_sound.true w.are_requests_sound.ensures (sym w.value-is ∙ c.if-are_requests_sound.false) ∙ by_row _
  | else-is_set_up_sound w ↦ w.value-is ∙ first_fails (sound_requests (state c.args.book.now)) (sound_exposures (state c.args.book.now)) c.is_set_up_sound.ensures w.if-is_set_up_sound.false ∙ by_row _
]
