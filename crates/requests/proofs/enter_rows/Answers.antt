-- `requests::enter_rows` meets its contract.
-- Assumes nothing.
use Rattle.requests.proofs.Steps.{taker_room, equal_room, entered_with_taker, entered_waiting, entered_with_equal}
use Rattle.requests.proofs.enter_rows.Goals as goal

pub join_exposure-requires : goal.join_exposure-requires
join_exposure-requires c = (c.requires.0, search taker_room)

pub returns-then-does_taker_follow : goal.returns-then-does_taker_follow
returns-then-does_taker_follow c = search entered_with_taker

pub returns-in_default : goal.returns-in_default
returns-in_default c = search entered_waiting

pub join_exposure-requires-2 : goal.join_exposure-requires-2
join_exposure-requires-2 c =
    (c.requires.0, equal_room _ _ _ c.does_taker_follow.ensures c.if-does_taker_follow.false c.from-kind.ensures c.earliest_equal.ensures c.in-Some.is c.enter_with_equal.ensures c.requires.1)

pub returns : goal.returns
returns c = search entered_with_equal
