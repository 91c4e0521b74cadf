-- `day_change::change_profiles` meets its contract: the profiles below `p` are changed.
-- Assumes nothing.
use mathlib.Core.Path.{◌≡◌, sym}
use native.Mathlib.Omega.{arith}
use Rattle.book.specs.State.{state}
use Rattle.rules.specs.DayChange.{change_takes_effect, profiles_changed}
use Rattle.day_laws.proofs.Each.{no_turn}
use Rattle.day_change.specs.Parts.{profile_waits}
use Rattle.day_rows.proofs.OnEach.{loop_steps}
use Rattle.day_change.proofs.Profiles.{profiles_apart}
use Rattle.day_change.proofs.change_profiles.Goals as goal

pub loop-p-init : goal.loop-p-init
loop-p-init c =
    let first = state c.args.book.now in
    (omega arith, sym (no_turn (profile_waits first) change_takes_effect first))

pub change_profile-requires : goal.change_profile-requires
change_profile-requires c = omega arith

pub loop-p-preserved : goal.loop-p-preserved
loop-p-preserved c =
    let first = state c.args.book.now in (
      omega arith,
      loop_steps profile_waits change_takes_effect profiles_apart first c.loop-p.p c.loop-p.invariant.1 c.change_profile.ensures,
    )

pub returns : goal.returns
unfolding profiles_changed
returns c =
    let e : c.loop-p.p ≡ 32 = omega arith in
    rw (← e) c.loop-p.invariant.1
