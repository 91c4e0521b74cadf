-- Steps 6 to 8: FOP, return, cancel.
-- Assumes nothing.
use Rattle.std.specs.Prelude.{Bool, not, ◌&&◌, ◌||◌, cond, List, [], ◌∷◌, ◌++◌, ℕ, ◌+◌, eqb, ltb}
use Rattle.laws.specs.Search.{least, least_by}
use Rattle.book.specs.Layout.{next_number, numbers, request_kinds, sides, givers, takers, partners, pair_partials, cancels, ends, term_tables, request_tables, exposure_tables}
use Rattle.book.specs.State.{State, put, put_row, row_is}
use Rattle.rules.specs.Fields.{fop_kind, giver_side, taker_side, side_in, giver_in, taker_in, basket_or_exposure_in, closing_in, reference_in, terms_in, cancel_owner, cancel_number}
use Rattle.rules.specs.Outcome.{Step, silent, given}
use Rattle.rules.specs.Requests.{is_used, is_paired, partner_of, is_whole, is_live, is_owner, accepts_giver, allow_partial, exposure_with, free_exposure, free_row}

-- "If a giver enters and the taker is automatic, or lists that giver"
abbrev pub taker_follows : State → List ℕ → Bool
taker_follows s r = eqb (side_in r) giver_side && accepts_giver s (taker_in r) (giver_in r)

-- "live unpaired request of the other side equal in all fields but side and reference"
abbrev pub is_equal : State → ℕ → List ℕ → ℕ → Bool
is_equal s k r i =
    is_live s i && (not (is_paired s i) && (eqb (s sides i + side_in r) 1 && (eqb (s request_kinds i) k && row_is s term_tables i (terms_in k r))))

-- the earliest of them: the one with the lowest number; 256 where there is none
unfoldable pub earliest_equal : State → ℕ → List ℕ → ℕ
earliest_equal s k r = least_by (is_equal s k r) (s numbers) 256 256

-- the request is paired at once: with the taker request made for it, or with an equal one that waits
abbrev pub pairs_now : State → ℕ → List ℕ → Bool
pairs_now s k r = taker_follows s r || ltb (earliest_equal s k r) 256

-- how many request rows it needs
abbrev pub rows_needed : State → List ℕ → ℕ
rows_needed s r = cond (taker_follows s r) 2 1

-- "A FOP pair belongs to the exposure of its giver, taker, basket and closing date": its row, 64 where there is none yet
abbrev pub exposure_of : State → List ℕ → ℕ
exposure_of s r = exposure_with s (giver_in r) (taker_in r) (basket_or_exposure_in r) (closing_in fop_kind r)

-- "or to the lowest free row": a FOP that pairs now, whose key no used exposure has
abbrev pub needs_exposure : State → ℕ → List ℕ → Bool
needs_exposure s k r = eqb k fop_kind && (pairs_now s k r && eqb (exposure_of s r) 64)

-- the exposure row e given out: in use, under the key of the record, of amount 0
abbrev pub exposure_given : State → List ℕ → ℕ → State
exposure_given s r e = put_row s exposure_tables e (1 ∷ giver_in r ∷ taker_in r ∷ basket_or_exposure_in r ∷ closing_in fop_kind r ∷ 0 ∷ [])

-- a row given out: a number, the record's fields, a side, a partner's mark (0 for none) and the pair's partial mark; it has settled nothing,
-- no cancel is noted on it, and it has not ended
unfoldable pub with_row : State → ℕ → List ℕ → ℕ → ℕ → ℕ → ℕ → ℕ → State
with_row s k r i number side partner partial =
    put_row s request_tables i (number ∷ k ∷ side ∷ (terms_in k r ++ (reference_in k r ∷ 0 ∷ partner ∷ partial ∷ 0 ∷ 0 ∷ [])))

-- "both parties allowed partial when they paired"
abbrev pub partial_mark : State → List ℕ → ℕ
partial_mark s r = cond (allow_partial s (giver_in r) (taker_in r)) 1 0

-- the rows of a request that gets its taker request made, "with the same reference, numbered next, and paired (B)"
unfoldable pub with_taker : State → ℕ → List ℕ → State
with_taker s k r =
    let n = s next_number 0 in
    let i = free_row s in
    let j = free_row (put s numbers i n) in
    let mark = partial_mark s r in
    put (with_row (with_row s k r i n giver_side (j + 1) mark) k r j (n + 1) taker_side (i + 1) mark) next_number 0 (n + 2)

-- the row of a request that pairs with the row j, and of one that waits
unfoldable pub with_equal : State → ℕ → List ℕ → ℕ → State
with_equal s k r j =
    let n = s next_number 0 in
    let i = free_row s in
    let mark = partial_mark s r in
    put (put (put (with_row s k r i n (side_in r) (j + 1) mark) partners j (i + 1)) pair_partials j mark) next_number 0 (n + 1)

unfoldable pub waiting : State → ℕ → List ℕ → State
waiting s k r = put (with_row s k r (free_row s) (s next_number 0) (side_in r) 0 0) next_number 0 (s next_number 0 + 1)

-- kinds 6, 7: the rows
abbrev pub rows_entered : State → ℕ → List ℕ → State
rows_entered s k r =
    cond (taker_follows s r) (with_taker s k r) (cond (ltb (earliest_equal s k r) 256) (with_equal s k r (earliest_equal s k r)) (waiting s k r))

-- B: the number of the request it is paired with
abbrev pub paired_with : State → ℕ → List ℕ → ℕ
paired_with s k r = cond (taker_follows s r) (s next_number 0 + 1) (cond (ltb (earliest_equal s k r) 256) (s numbers (earliest_equal s k r)) 0)

-- kinds 6, 7: "each request gets the next number from 1 (A)"
unfoldable pub entered : State → ℕ → List ℕ → Step
entered s k r =
    let e = free_exposure s in
    record {
      a = s next_number 0;
      b = paired_with s k r;
      m = 0;
      state = cond (needs_exposure s k r) (exposure_given (rows_entered s k r) r e) (rows_entered s k r);
      events = cond (needs_exposure s k r) (given e ∷ []) [];
    }

-- code 12: "such live request of that owner", or one that has settled whole: "a whole settled row gives its owner 13 until day change"
abbrev pub is_own_request : State → ℕ → ℕ → ℕ → Bool
is_own_request s p n i = is_used s i && (eqb (s numbers i) n && ((is_live s i || is_whole s i) && is_owner s i p))

-- its row, 256 where there is none
abbrev pub own_request : State → ℕ → ℕ → ℕ
own_request s p n = least (is_own_request s p n) 256 0

-- "when both owners have cancelled, or the giver alone where the taker now accepts it automatically"
abbrev pub pair_ends : State → ℕ → Bool
pair_ends s i = eqb (s cancels (partner_of s i)) 1 || (eqb (s sides i) giver_side && accepts_giver s (s takers i) (s givers i))

-- kind 8: "an unpaired request ends .. A paired one ends, with its partner, when .."; else the owner's cancel is noted
unfoldable pub cancelled : State → List ℕ → Step
cancelled s r =
    let i = own_request s (cancel_owner r) (cancel_number r) in
    let noted = put s cancels i 1 in
    silent (cond (is_paired s i) (cond (pair_ends s i) (put (put noted ends i 1) ends (partner_of s i) 1) noted) (put s ends i 1))
