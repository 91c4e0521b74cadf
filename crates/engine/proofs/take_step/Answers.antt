-- `engine::take_step` meets its contract: kind by kind.
-- Assumes nothing.
use mathlib.Core.Path.{◌≡◌, sym, ◌∙◌}
use native.Mathlib.Omega.{arith}
use Rattle.book.specs.State.{state}
use Rattle.record_kinds.specs.declared.Kind.TheVariants.{Opening, Fop, Return, Cancel, Settle, Mark, Recall, NextDay}
use Rattle.engine.proofs.ByKind.{by_totals, by_state, silent_totals, no_rule_kind, deposit_room, withdrawal_holds}
use Rattle.engine.proofs.take_step.Goals as goal

pub returns-in-Fop : goal.returns-in-Fop
returns-in-Fop c = rw c.in-Fop.is (by_totals _ _ 6 c.enter_fop.ensures.0, by_state _ _ 6 c.enter_fop.ensures.1)

pub enter_fop-requires : goal.enter_fop-requires
enter_fop-requires c =
    (c.in-Fop.is, c.requires.taken.sound_book (λ e. let q : Fop ≡ Opening = sym c.in-Fop.is ∙ e in cc), rw c.in-Fop.is at (no_rule_kind c.requires))

pub returns-in-Return : goal.returns-in-Return
returns-in-Return c = rw c.in-Return.is (by_totals _ _ 7 c.enter_return.ensures.0, by_state _ _ 7 c.enter_return.ensures.1)

pub enter_return-requires : goal.enter_return-requires
enter_return-requires c =
    (c.in-Return.is, c.requires.taken.sound_book (λ e. let q : Return ≡ Opening = sym c.in-Return.is ∙ e in cc), rw c.in-Return.is at (no_rule_kind c.requires))

pub returns-in-Cancel : goal.returns-in-Cancel
returns-in-Cancel c = rw c.in-Cancel.is (by_totals _ _ 8 c.cancel.ensures.0, by_state _ _ 8 c.cancel.ensures.1)

pub cancel-requires : goal.cancel-requires
cancel-requires c =
    (c.in-Cancel.is, c.requires.taken.sound_book (λ e. let q : Cancel ≡ Opening = sym c.in-Cancel.is ∙ e in cc), rw c.in-Cancel.is at (no_rule_kind c.requires))

pub returns-in-Settle : goal.returns-in-Settle
returns-in-Settle c = rw c.in-Settle.is (by_totals _ _ 9 c.settle.ensures.0, by_state _ _ 9 c.settle.ensures.1)

pub settle-requires : goal.settle-requires
settle-requires c = c.requires.taken.sound_book (λ e. let q : Settle ≡ Opening = sym c.in-Settle.is ∙ e in cc)

pub returns-in-Mark : goal.returns-in-Mark
returns-in-Mark c = rw c.in-Mark.is (by_totals _ _ 10 c.mark.ensures.0, by_state _ _ 10 c.mark.ensures.1)

pub mark-requires : goal.mark-requires
mark-requires c = c.requires.taken.sound_book (λ e. let q : Mark ≡ Opening = sym c.in-Mark.is ∙ e in cc)

pub returns-in-Recall : goal.returns-in-Recall
returns-in-Recall c = rw c.in-Recall.is (by_totals _ _ 11 c.recall.ensures.0, by_state _ _ 11 c.recall.ensures.1)

pub recall-requires : goal.recall-requires
recall-requires c =
    (c.in-Recall.is, c.requires.taken.sound_book (λ e. let q : Recall ≡ Opening = sym c.in-Recall.is ∙ e in cc), rw c.in-Recall.is at (no_rule_kind c.requires))

pub returns-in-NextDay : goal.returns-in-NextDay
returns-in-NextDay c = rw c.in-NextDay.is (by_totals _ _ 12 c.next_day.ensures.0, by_state _ _ 12 c.next_day.ensures.1)

pub next_day-requires : goal.next_day-requires
next_day-requires c =
    (c.requires.taken.sound_book (λ e. let q : NextDay ≡ Opening = sym c.in-NextDay.is ∙ e in cc), rw c.in-NextDay.is at (no_rule_kind c.requires))

pub returns-in-Opening : goal.returns-in-Opening
returns-in-Opening c = rw c.in-Opening.is (silent_totals _ 0 _ (omega arith), by_state _ _ 0 c.open.ensures)

pub returns-in-Price : goal.returns-in-Price
returns-in-Price c = rw c.in-Price.is (silent_totals _ 1 _ (omega arith), by_state _ _ 1 c.price.ensures)

pub returns-in-Participant : goal.returns-in-Participant
returns-in-Participant c = rw c.in-Participant.is (silent_totals _ 2 _ (omega arith), by_state _ _ 2 c.enrol.ensures)

pub returns-in-Basket : goal.returns-in-Basket
returns-in-Basket c = rw c.in-Basket.is (silent_totals _ 3 _ (omega arith), by_state _ _ 3 c.make_basket.ensures)

pub returns-in-Deposit : goal.returns-in-Deposit
returns-in-Deposit c = rw c.in-Deposit.is (silent_totals _ 4 _ (omega arith), by_state _ _ 4 c.deposit.ensures)

pub deposit-requires : goal.deposit-requires
deposit-requires c = (c.in-Deposit.is, deposit_room (state c.args.book.now) c.args.legal.now.fields (rw c.in-Deposit.is at (no_rule_kind c.requires)))

pub returns-in-Withdrawal : goal.returns-in-Withdrawal
returns-in-Withdrawal c = rw c.in-Withdrawal.is (silent_totals _ 5 _ (omega arith), by_state _ _ 5 c.withdraw.ensures)

pub withdraw-requires : goal.withdraw-requires
withdraw-requires c = (c.in-Withdrawal.is, withdrawal_holds (state c.args.book.now) c.args.legal.now.fields (rw c.in-Withdrawal.is at (no_rule_kind c.requires)))
