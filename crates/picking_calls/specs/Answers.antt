-- What picking answers a host, which may lend any numbers: 4 for a number out of its range, 7 for a day that is not open.
-- Assumes nothing.
use Rattle.std.specs.Prelude.{Bool, not, ◌&&◌, cond, List, ℕ, leb, eqb, replicate}
use Rattle.limits.specs.Limits.{greatest_exposure}
use Rattle.answers.specs.Answers.{out_of_range, bad_day}
use Rattle.baskets.specs.Basket.{eligible}
use Rattle.baskets.specs.declared.Basket.{Basket}
use Rattle.calendar.specs.Target.{open_day}
use Rattle.securities.specs.Position.{legal_nominals}
use Rattle.securities.specs.Security.{legal_securities, legal_quotes}
use Rattle.picking.specs.Free.{freed}
use Rattle.picking.specs.Pick.{nothing, picked}
use Rattle.picking_calls.specs.declared.FreeAnswer as free
use Rattle.picking_calls.specs.declared.PickAnswer as pick

-- a refusal of a pick, and of a free: the other numbers are 0
abbrev pub pick_refused : ℕ → pick.PickAnswer
pick_refused c = record { code = c; outcome = nothing }

abbrev pub free_refused : ℕ → free.FreeAnswer
free_refused c = record { code = c; freed = record { nominals = replicate 64 0; left = 0; count = 0 } }

-- the numbers that a pick is given are in their ranges: nominals, securities, a map that is not 0, an age of one byte, an amount up to 10^13
unfoldable pub legal_pick : List ℕ → List ℕ → Basket → ℕ → Bool
legal_pick columns account b amount =
    legal_nominals account && (legal_securities columns && (not (eqb b.map 0) && (leb b.oldest 255 && leb amount greatest_exposure)))

-- "any day named, quote days too, not open ..; quote after today"
unfoldable pub legal_days : List ℕ → ℕ → Bool
legal_days columns today = open_day today && legal_quotes today columns

-- a pick for a basket, for any numbers
unfoldable pub picked_for : List ℕ → List ℕ → Basket → ℕ → ℕ → pick.PickAnswer
picked_for columns account b today amount =
    cond (legal_pick columns account b amount)
    (cond (legal_days columns today) (record { code = 0; outcome = picked columns account (eligible b today columns) amount }) (pick_refused bad_day))
    (pick_refused out_of_range)

-- the numbers that a free is given are in their ranges
unfoldable pub legal_free : List ℕ → List ℕ → ℕ → Bool
legal_free columns position exposure = legal_nominals position && (legal_securities columns && leb exposure greatest_exposure)

-- a free down to an exposure, for any numbers. It values at the last price whatever its age, so it reads no quote day
unfoldable pub freed_down : List ℕ → List ℕ → ℕ → free.FreeAnswer
freed_down columns position exposure = cond (legal_free columns position exposure) (record { code = 0; freed = freed columns position exposure }) (free_refused out_of_range)
