-- `day_exposures::give_position` meets its contract: the securities below `i` are given back.
-- Assumes nothing.
use mathlib.Core.Path.{◌≡◌, sym, ◌∙◌}
use Prim.Native.Nat.{◌<◌}
use native.Mathlib.Omega.{arith}
use Rattle.book.specs.State.{state}
use Rattle.day_laws.proofs.Each.{no_turn}
use Rattle.day_rows.proofs.OnEach.{loop_steps}
use Rattle.day_exposures.specs.Parts.{is_held, security_back}
use Rattle.day_exposures.proofs.Back.{held_apart, position_ahead, account_ahead, position_back}
use Rattle.day_exposures.proofs.give_position.Goals as goal

pub get-owner-requires : goal.get-owner-requires
get-owner-requires c =
    c.requires.below

pub loop-i-init : goal.loop-i-init
loop-i-init c =
    let first = state c.args.book.now in
    (omega arith, sym (no_turn (is_held c.args.e first) (security_back c.get-owner.result c.args.e) first))

pub give_security-requires : goal.give_security-requires
give_security-requires c =
    let first = state c.args.book.now in
    let i = c.loop-i.i in
    let m : i < 64 = omega arith in (
      omega (arith, c.get-owner.ensures, c.requires.giver),
      c.requires.below,
      m,
      rw (c.loop-i.invariant.1, account_ahead c.get-owner.result c.args.e first i, position_ahead c.get-owner.result c.args.e first i, c.get-owner.ensures)
          (c.requires.room i m),
    )

pub loop-i-preserved : goal.loop-i-preserved
loop-i-preserved c =
    let owner = c.get-owner.result in (
      omega arith,
      loop_steps (is_held c.args.e) (security_back owner c.args.e) (held_apart owner c.args.e) (state c.args.book.now) c.loop-i.i c.loop-i.invariant.1 c.give_security.ensures,
    )

pub returns : goal.returns
returns c =
    let end : c.loop-i.i ≡ 64 = omega arith in
    rw (end, c.get-owner.ensures) at c.loop-i.invariant.1 ∙ position_back c.args.e (state c.args.book.now)
