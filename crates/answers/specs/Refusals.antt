-- "Codes": the number of each reason for a refusal, and the code of an outcome.
-- Assumes nothing.
use Rattle.answers.specs.declared.CodedValue.{CodedValue}
use Rattle.std.specs.Prelude.{ℕ, Result, Ok, Err}
use Rattle.answers.specs.declared.Refusal.{Refusal}
use Rattle.answers.specs.Answers.{accepted, refused}
use Rattle.answers.specs.declared.Refusal.TheVariants.{BookLength, UnsoundBook, Malformed, OutOfRange, NotSetUp, SetUpAgain, BadDay, SameParty, Automatic, TooMuch, TooLarge, NoneSuch, Settled, NoRow, NoExposure, NotCovered}

abbrev pub number : Refusal → ℕ
-- 1: book of another length
number BookLength = 1
-- 2: book not sound
number UnsoundBook = 2
-- 3: no or unknown kind, or body of another length
number Malformed = 3
-- 4: field out of range
number OutOfRange = 4
-- 5: not set up, or a row not in use
number NotSetUp = 5
-- 6: set up already, or another lot
number SetUpAgain = 6
-- 7: a day not open or above 146,096; quote after today; no next day
number BadDay = 7
-- 8: the giver is the taker
number SameParty = 8
-- 9: a taker that accepts the giver automatically
number Automatic = 9
-- 10: more than is held
number TooMuch = 10
-- 11: a holding above 500,000,000
number TooLarge = 11
-- 12: no such request or exposure
number NoneSuch = 12
-- 13: settled in part or whole
number Settled = 13
-- 14: no request row, or no number
number NoRow = 14
-- 15: no exposure row
number NoExposure = 15
-- 16: not covered by the substitutes
number NotCovered = 16

-- the code of an outcome: 0 where it is accepted
abbrev pub outcome_code : {A : Type 0} → Result A Refusal → ℕ
outcome_code (Ok x) = 0
outcome_code (Err r) = number r

-- what a host gets of an outcome
abbrev pub coded : Result ℕ Refusal → CodedValue
coded (Ok v) = accepted v
coded (Err r) = refused (number r)
