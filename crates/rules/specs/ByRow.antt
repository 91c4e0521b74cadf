-- Soundness as the code tests it: row by row. What the paper's sentence says is Sound.antt; both are the same (facts, `by_Row`).
-- Assumes nothing.
use Rattle.std.specs.Prelude.{Bool, not, ◌&&◌, ◌||◌, cond, ℕ, ◌+◌, ◌*◌, ◌%◌, eqb, leb, ltb}
use Rattle.limits.specs.Limits.{greatest_amount, greatest_exposure, greatest_haircut, greatest_lot, greatest_next, greatest_nominal, greatest_price, greatest_tolerance}
use Rattle.laws.specs.Search.{between, all}
use Rattle.calendar.specs.Target.{open_day}
use Rattle.book.specs.Layout.{today, tolerance, next_number, lots, prices, haircuts, quote_days, modes, lists, partials, waiting_modes, waiting_lists, waiting_partials, greatest_ages, numbers, request_kinds, sides, givers, takers, baskets_or_exposures, amounts, settlements, closings, settled_amounts, partners, pair_partials, cancels, ends, in_use, exposure_givers, exposure_takers, exposure_baskets, exposure_closings, exposure_amounts, positions, spares, term_tables, request_tables, key_tables, exposure_tables, rows_of}
use Rattle.book.specs.State.{State, rows_alike, row_blank}
use Rattle.rules.specs.Stock.{participant_set_up, security_set_up, basket_set_up, holding}
use Rattle.rules.specs.Requests.{is_used, is_fop, is_return, is_paired, partner_of, open_or_none, exposure_of_fop}

-- "today and all stored days are open", "tolerance .. in the ranges": of the book as a whole
abbrev pub sound_head : State → Bool
sound_head s = open_day (s today 0) && (between 1 greatest_tolerance (s tolerance 0) && between 1 greatest_next (s next_number 0))

-- of a security: nothing, or its ranges and an open quote day
abbrev pub sound_security : State → ℕ → Bool
sound_security s i =
    cond (security_set_up s i)
    (leb (s lots i) greatest_lot && (between 1 greatest_price (s prices i) && (leb (s haircuts i) greatest_haircut && open_day (s quote_days i))))
    (eqb (s prices i) 0 && (eqb (s haircuts i) 0 && eqb (s quote_days i) 0))

-- of a participant's profile in force, and of one that waits
abbrev pub sound_profile : ℕ → ℕ → ℕ → Bool
sound_profile mode list partial = cond (eqb mode 0) (eqb list 0 && eqb partial 0) (leb mode 3 && leb partial 1)

-- of a participant: both profiles; a change waits only where a profile is in force
abbrev pub sound_participant : State → ℕ → Bool
sound_participant s p =
    sound_profile (s modes p) (s lists p) (s partials p)
    && (sound_profile (s waiting_modes p) (s waiting_lists p) (s waiting_partials p) && (participant_set_up s p || eqb (s waiting_modes p) 0))

-- of a basket
abbrev pub sound_basket : State → ℕ → Bool
sound_basket s b = cond (basket_set_up s b) (leb (s greatest_ages b) 255) (eqb (s greatest_ages b) 0)

-- "every giver, taker .. named is set up, giver and taker differ"
abbrev pub sound_parties : State → ℕ → ℕ → Bool
sound_parties s giver taker = ltb giver 32 && (ltb taker 32 && (participant_set_up s giver && (participant_set_up s taker && not (eqb giver taker))))

-- "every .. basket named is set up"
abbrev pub basket_named : State → ℕ → Bool
basket_named s b = ltb b 16 && basket_set_up s b

-- "returns name a used exposure of their giver and taker"
abbrev pub return_names : State → ℕ → Bool
return_names s i =
    ltb (s baskets_or_exposures i) 64
    && (eqb (s in_use (s baskets_or_exposures i)) 1 && (eqb (s exposure_givers (s baskets_or_exposures i)) (s givers i) && eqb (s exposure_takers (s baskets_or_exposures i)) (s takers i)))

-- the kind's own fields: a FOP's basket, amount and closing; a return's exposure and amount
abbrev pub sound_fop : State → ℕ → Bool
sound_fop s i = basket_named s (s baskets_or_exposures i) && (between (s tolerance 0) greatest_amount (s amounts i) && open_or_none (s closings i))

abbrev pub sound_return : State → ℕ → Bool
sound_return s i = return_names s i && (between 1 greatest_amount (s amounts i) && eqb (s closings i) 0)

-- by its kind
abbrev pub sound_kind : State → ℕ → Bool
sound_kind s i = (is_fop s i && sound_fop s i) || (is_return s i && sound_return s i)

-- "no row has settled more than its amount"; the marks of a row
abbrev pub sound_marks : State → ℕ → Bool
sound_marks s i = leb (s settled_amounts i) (s amounts i) && (leb (s pair_partials i) 1 && (leb (s cancels i) 1 && leb (s ends i) 1))

-- the fields of a row in their ranges; "request numbers .. below the next to be given"
abbrev pub sound_fields : State → ℕ → Bool
sound_fields s i =
    ltb (s numbers i) (s next_number 0)
    && (leb (s sides i) 1 && (sound_parties s (s givers i) (s takers i) && (sound_kind s i && (open_day (s settlements i) && sound_marks s i))))

-- two rows hold the same in a table
abbrev pub same : State → ℕ → ℕ → ℕ → Bool
same s f i j = eqb (s f i) (s f j)

-- "settled amount and end equal", and the partial mark, which is the pair's
abbrev pub marks_alike : State → ℕ → ℕ → Bool
marks_alike s i j = same s settled_amounts i j && (same s ends i j && same s pair_partials i j)

-- "paired rows name each other, their sides opposite, their kind, other record fields but reference, settled amount and end equal"
abbrev pub sound_pair : State → ℕ → ℕ → Bool
sound_pair s i j =
    ltb j 256
    && (eqb (s partners j) (i + 1)
    && (eqb (s sides i + s sides j) 1
    && (same s request_kinds i j && (rows_alike s term_tables i j && marks_alike s i j))))

-- "FOP pairs belong to a used exposure with their key"
abbrev pub sound_paired : State → ℕ → Bool
sound_paired s i = sound_pair s i (partner_of s i) && (is_return s i || ltb (exposure_of_fop s i) 64)

-- "an unpaired one [has settled] nothing"
abbrev pub sound_unpaired : State → ℕ → Bool
sound_unpaired s i = eqb (s settled_amounts i) 0 && eqb (s pair_partials i) 0

-- of a request row: its fields, and its pair or that it has none; an unused one holds nothing
abbrev pub sound_row : State → ℕ → Bool
sound_row s i = cond (is_used s i) (sound_fields s i && cond (is_paired s i) (sound_paired s i) (sound_unpaired s i)) (row_blank s request_tables i)

-- "request numbers are distinct": of the row i against the rows before it
abbrev pub differs : State → ℕ → ℕ → Bool
differs s i j = not (same s numbers i j)

abbrev pub distinct_number : State → ℕ → Bool
distinct_number s i = eqb (s numbers i) 0 || all (differs s i) i 0

-- of an exposure: "exposures are at most 10^13"; an unused row holds nothing
abbrev pub sound_exposure : State → ℕ → Bool
sound_exposure s e =
    cond (eqb (s in_use e) 0)
    (row_blank s exposure_tables e)
    (eqb (s in_use e) 1
    && (sound_parties s (s exposure_givers e) (s exposure_takers e)
    && (basket_named s (s exposure_baskets e) && (open_or_none (s exposure_closings e) && leb (s exposure_amounts e) greatest_exposure))))

-- "used exposures have distinct keys", giver, taker, basket and closing: of the row e against the rows before it
abbrev pub other_key : State → ℕ → ℕ → Bool
other_key s e d = not (eqb (s in_use d) 1 && rows_alike s key_tables e d)

abbrev pub distinct_key : State → ℕ → Bool
distinct_key s e = eqb (s in_use e) 0 || all (other_key s e) e 0

-- "positions stand only in used exposures and in whole lots of securities set up; an exposure of amount 0 has no position"
abbrev pub sound_position : State → ℕ → ℕ → Bool
sound_position s e i =
    eqb (s positions (64 * e + i)) 0
    || (eqb (s in_use e) 1 && (not (eqb (s exposure_amounts e) 0) && (security_set_up s i && eqb (s positions (64 * e + i) % s lots i) 0)))

-- ".. is at most 500,000,000"
abbrev pub sound_holding : State → ℕ → ℕ → Bool
sound_holding s p i = leb (holding s p i) greatest_nominal

-- of all securities of an exposure, and of a participant
abbrev pub sound_positions : State → ℕ → Bool
sound_positions s e = all (sound_position s e) 64 0

abbrev pub sound_holdings : State → ℕ → Bool
sound_holdings s p = all (sound_holding s p) 64 0

-- a spare row holds nothing
abbrev pub is_spare : State → ℕ → Bool
is_spare s k = eqb (s spares k) 0

-- what is set up, the request rows, and the exposures with what they hold
abbrev pub sound_set_up : State → Bool
sound_set_up s = sound_head s && (all (sound_security s) 64 0 && (all (sound_participant s) 32 0 && (all (sound_basket s) 16 0 && all (is_spare s) (rows_of spares) 0)))

abbrev pub sound_requests : State → Bool
sound_requests s = all (sound_row s) 256 0 && all (distinct_number s) 256 0

abbrev pub sound_exposures : State → Bool
sound_exposures s = all (sound_exposure s) 64 0 && (all (distinct_key s) 64 0 && (all (sound_positions s) 64 0 && all (sound_holdings s) 32 0))

-- the whole
unfoldable pub sound_by_row : State → Bool
sound_by_row s = sound_set_up s && (sound_requests s && sound_exposures s)
