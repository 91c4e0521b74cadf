-- `engine::check` meets its contract: kind by kind.
-- Assumes nothing.
use Rattle.book.specs.State.{state}
use Rattle.engine.proofs.ByKind.{by_code, no_code}
use Rattle.engine.proofs.check.Goals as goal

pub returns-in-Opening : goal.returns-in-Opening
returns-in-Opening c = rw c.in-Opening.is (by_code _ _ 0 c.check_opening.ensures)

pub returns-in-Price : goal.returns-in-Price
returns-in-Price c = rw c.in-Price.is (by_code _ _ 1 c.check_price.ensures)

pub returns-in-Basket : goal.returns-in-Basket
returns-in-Basket c = rw c.in-Basket.is (by_code _ _ 3 c.check_basket.ensures)

pub returns-in-Deposit : goal.returns-in-Deposit
returns-in-Deposit c = rw c.in-Deposit.is (by_code _ _ 4 c.check_deposit.ensures)

pub returns-in-Withdrawal : goal.returns-in-Withdrawal
returns-in-Withdrawal c = rw c.in-Withdrawal.is (by_code _ _ 5 c.check_withdrawal.ensures)

pub returns-in-Fop : goal.returns-in-Fop
returns-in-Fop c = rw c.in-Fop.is (by_code _ _ 6 c.check_fop.ensures)

pub returns-in-Return : goal.returns-in-Return
returns-in-Return c = rw c.in-Return.is (by_code _ _ 7 c.check_return.ensures)

pub returns-in-Cancel : goal.returns-in-Cancel
returns-in-Cancel c = rw c.in-Cancel.is (by_code _ _ 8 c.check_cancel.ensures)

pub returns-in-Recall : goal.returns-in-Recall
returns-in-Recall c = rw c.in-Recall.is (by_code _ _ 11 c.check_recall.ensures)

pub returns-in-NextDay : goal.returns-in-NextDay
returns-in-NextDay c = rw c.in-NextDay.is (by_code _ _ 12 c.check_next_day.ensures)

pub returns-in-Participant : goal.returns-in-Participant
returns-in-Participant c = no_code (state c.args.book.now) c.args.legal.now.fields c.in-Participant.is
