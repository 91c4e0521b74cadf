-- What is looked for in the request rows: free ones, an equal request, one that a cancel may name.
-- Assumes nothing.
use Rattle.std.specs.Prelude.{Bool, ◌&&◌, ◌||◌, List, ℕ, ◌+◌, eqb}
use Rattle.laws.specs.Search.{count, least}
use Rattle.book.specs.Layout.{numbers, request_kinds, sides, givers, takers, baskets_or_exposures, amounts, settlements, closings, ends}
use Rattle.book.specs.State.{State}
use Rattle.rules.specs.Requests.{is_whole}
use Rattle.rules.specs.Fields.{side_in, giver_in, taker_in, basket_or_exposure_in, amount_in, settlement_in, closing_in}

-- how many request rows are not used
abbrev pub rows_free : State → ℕ
rows_free s = count (λ i. eqb (s numbers i) 0) 256 0

-- a row with the record's basket or exposure, amount and days
abbrev pub same_terms : State → ℕ → List ℕ → ℕ → Bool
same_terms s k r i =
    eqb (s baskets_or_exposures i) (basket_or_exposure_in r) && (eqb (s amounts i) (amount_in r) && (eqb (s settlements i) (settlement_in r) && eqb (s closings i) (closing_in k r)))

-- and of the other side, of that kind and between the same parties
abbrev pub other_side : State → ℕ → List ℕ → ℕ → Bool
other_side s k r i =
    eqb (s sides i + side_in r) 1
    && (eqb (s request_kinds i) k && (eqb (s givers i) (giver_in r) && (eqb (s takers i) (taker_in r) && same_terms s k r i)))

-- a used row that has not ended, or has settled whole: live or settled whole
abbrev pub open_or_whole : State → ℕ → Bool
open_or_whole s i = eqb (s ends i) 0 || is_whole s i

-- the lowest of a table's rows below n that holds 0, n where none does
abbrev pub first_empty : State → ℕ → ℕ → ℕ
first_empty s f n = least (λ i. eqb (s f i) 0) n 0
