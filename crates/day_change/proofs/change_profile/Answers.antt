-- `day_change::change_profile` meets its contract.
-- Assumes nothing.
use Rattle.book.specs.State.{state}
use Rattle.day_change.proofs.Profiles.{cleared_profile, profile_changed, profile_kept}
use Rattle.day_change.proofs.change_profile.Goals as goal

pub returns-then-get-ne0 : goal.returns-then-get-ne0
returns-then-get-ne0 c =
    profile_changed (state c.args.book.now) c.args.p c.get.ensures c.if-get-ne0.true
    (rw (c.clear.ensures, c.copy-then-get-ne0-2.ensures, c.copy-then-get-ne0.ensures, c.copy.ensures) (cleared_profile (state c.args.book.now) c.args.p))

pub returns-else-get-ne0 : goal.returns-else-get-ne0
returns-else-get-ne0 c =
    profile_kept (state c.args.book.now) c.args.p c.get.ensures c.if-get-ne0.false
