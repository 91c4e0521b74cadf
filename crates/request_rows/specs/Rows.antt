-- What the functions that write a request's row count on of its record, and what they leave.
-- Assumes nothing.
use Rattle.std.specs.Prelude.{◌≡◌, List, [], ◌∷◌, Option, Some, None, ℕ, ◌+◌, ◌≤◌}
use Rattle.book.specs.Layout.{numbers, request_kinds, sides, givers, takers, baskets_or_exposures, amounts, settlements, closings, references, settled_amounts, partners, pair_partials, cancels, ends}
use Rattle.book.specs.State.{State, put, put_row}
use Rattle.rules.specs.Requests.{free_row}
use Rattle.rules.specs.Fields.{giver_in, taker_in, basket_or_exposure_in, amount_in, settlement_in, closing_in, reference_in}
use Rattle.request_search.specs.Ranges.{RequestIn}

-- the common fields with the kind, 6 or 7, and the fields that depend on it
pub record EntryIn (k : ℕ) (r : List ℕ) : Type 0 where
  pub kind_low : 6 ≤ k
  pub kind_high : k ≤ 7
  pub fields : RequestIn r
  pub closing : closing_in k r ≤ 4294967295
  pub reference : reference_in k r ≤ 18446744073709551615

-- the mark of a partner: one more than its row, 0 for none
abbrev pub mark_of : Option ℕ → ℕ
mark_of None = 0
mark_of (Some j) = j + 1

-- the row's parties with their basket or exposure; its amount, days and reference; what it has come to: nothing settled, no cancel, no end
unfoldable pub with_parties : State → List ℕ → ℕ → State
with_parties s r i = put_row s (givers ∷ takers ∷ baskets_or_exposures ∷ []) i (giver_in r ∷ taker_in r ∷ basket_or_exposure_in r ∷ [])

unfoldable pub with_terms : State → ℕ → List ℕ → ℕ → State
with_terms s k r i = put_row s (amounts ∷ settlements ∷ closings ∷ references ∷ []) i (amount_in r ∷ settlement_in r ∷ closing_in k r ∷ reference_in k r ∷ [])

-- a row's partner's mark and the pair's partial mark
abbrev pub with_partner : State → ℕ → ℕ → ℕ → State
with_partner s i partner partial = put (put s partners i partner) pair_partials i partial

unfoldable pub with_marks : State → ℕ → ℕ → ℕ → State
with_marks s i partner partial = put_row s (settled_amounts ∷ partners ∷ pair_partials ∷ cancels ∷ ends ∷ []) i (0 ∷ partner ∷ partial ∷ 0 ∷ 0 ∷ [])

-- a row whose number stands already gets the rest
unfoldable pub filled_row : State → ℕ → List ℕ → ℕ → ℕ → ℕ → ℕ → State
filled_row s k r i side partner partial =
    with_marks (with_terms (with_parties (put (put s request_kinds i k) sides i side) r i) k r i) i partner partial

-- the lowest free row is taken for a number
pub record RowTaken (s : State) (number row : ℕ) (after : State) : Type 0 where
  pub free_row_is : row ≡ free_row s
  pub state_is : after ≡ put s numbers (free_row s) number
