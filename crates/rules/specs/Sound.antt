-- Document 01: "A book is sound when: ..", clause by clause, in its own order and words. What the layout adds stands apart (SoundLayout.antt):
-- there a row that is not used holds nothing, so that "paired", "FOP" and "return" are said of used rows only.
-- Assumes nothing.
use Rattle.std.specs.Prelude.{Bool, not, ◌&&◌, ◌||◌, [], ◌∷◌, ◌++◌, ℕ, ◌+◌, ◌*◌, ◌%◌, eqb, leb, ltb}
use Rattle.limits.specs.Limits.{greatest_amount, greatest_exposure, greatest_haircut, greatest_lot, greatest_nominal, greatest_price, greatest_tolerance}
use Rattle.laws.specs.Search.{between, all, of_each}
use Rattle.calendar.specs.Target.{open_day}
use Rattle.book.specs.Layout.{today, tolerance, next_number, lots, prices, haircuts, quote_days, modes, partials, waiting_modes, waiting_partials, greatest_ages, numbers, request_kinds, sides, givers, takers, baskets_or_exposures, amounts, settlements, closings, settled_amounts, partners, ends, exposure_givers, exposure_takers, exposure_baskets, exposure_closings, exposure_amounts, positions, term_tables, key_tables}
use Rattle.book.specs.State.{State, rows_alike}
use Rattle.rules.specs.Fields.{by_hand, stored_mode}
use Rattle.rules.specs.Requests.{is_used, is_fop, is_return, is_paired, partner_of, open_or_none, is_in_use, is_exposure_of, exposure_of_fop}
use Rattle.rules.specs.SoundLayout.{sound_layout}
use Rattle.rules.specs.Stock.{participant_set_up, security_set_up, basket_set_up, holding}

-- "today and all stored days are open (a closing may be 0)"
abbrev pub days_open : State → Bool
days_open s =
    open_day (s today 0)
    && of_each 64 (security_set_up s) (λ i. open_day (s quote_days i))
    && of_each 256 (is_used s) (λ i. open_day (s settlements i) && open_or_none (s closings i))
    && of_each 64 (is_in_use s) (λ e. open_or_none (s exposure_closings e))

-- "tolerance and all stored fields lie in the ranges below" (a list and a reference have every value of their bytes, and so has a map
-- but 0, which is a basket not set up; nominals have the last clause): the price's
abbrev pub price_in_range : State → ℕ → Bool
price_in_range s i = between 1 greatest_lot (s lots i) && between 1 greatest_price (s prices i) && leb (s haircuts i) greatest_haircut

-- the participant's, both of the profile in force and of the one that waits
abbrev pub participant_in_range : State → ℕ → Bool
participant_in_range s p =
    leb (s modes p) (stored_mode by_hand) && leb (s partials p) 1 && leb (s waiting_modes p) (stored_mode by_hand) && leb (s waiting_partials p) 1

-- the FOP's, and the return's
abbrev pub fop_in_range : State → ℕ → Bool
fop_in_range s i = is_fop s i && ltb (s baskets_or_exposures i) 16 && between (s tolerance 0) greatest_amount (s amounts i)

abbrev pub return_in_range : State → ℕ → Bool
return_in_range s i = is_return s i && ltb (s baskets_or_exposures i) 64 && between 1 greatest_amount (s amounts i)

-- what both have
abbrev pub request_in_range : State → ℕ → Bool
request_in_range s i = leb (s sides i) 1 && ltb (s givers i) 32 && ltb (s takers i) 32 && (fop_in_range s i || return_in_range s i)

-- the exposure's
abbrev pub exposure_in_range : State → ℕ → Bool
exposure_in_range s e = ltb (s exposure_givers e) 32 && ltb (s exposure_takers e) 32 && ltb (s exposure_baskets e) 16

-- the whole clause
abbrev pub fields_in_range : State → Bool
fields_in_range s =
    between 1 greatest_tolerance (s tolerance 0)
    && of_each 64 (security_set_up s) (price_in_range s)
    && all (participant_in_range s) 32 0
    && all (λ b. leb (s greatest_ages b) 255) 16 0
    && of_each 256 (is_used s) (request_in_range s)
    && of_each 64 (is_in_use s) (exposure_in_range s)

-- "request numbers are distinct and below the next to be given": each from those in the rows before it
abbrev pub numbers_distinct : State → Bool
numbers_distinct s = of_each 256 (is_used s) (λ i. ltb (s numbers i) (s next_number 0) && all (λ j. not (eqb (s numbers i) (s numbers j))) i 0)

-- "paired rows name each other, their sides opposite, their kind, other record fields but reference, settled amount and end equal"; of two
-- opposite sides one is 0 and the other 1
abbrev pub pair_agrees : State → ℕ → ℕ → Bool
pair_agrees s i j =
    ltb j 256
    && eqb (s partners j) (i + 1)
    && eqb (s sides i + s sides j) 1
    && rows_alike s (request_kinds ∷ (term_tables ++ (settled_amounts ∷ ends ∷ []))) i j

abbrev pub pairs_agree : State → Bool
pairs_agree s = of_each 256 (is_paired s) (λ i. pair_agrees s i (partner_of s i))

-- "no row has settled more than its amount, an unpaired one nothing"
abbrev pub settled_within : State → Bool
settled_within s = all (λ i. leb (s settled_amounts i) (s amounts i) && (is_paired s i || eqb (s settled_amounts i) 0)) 256 0

-- two parties that are set up and differ
abbrev pub parties_set_up : State → ℕ → ℕ → Bool
parties_set_up s giver taker = participant_set_up s giver && participant_set_up s taker && not (eqb giver taker)

-- "every giver, taker and basket named is set up, giver and taker differ" (a participant's list names none: any bits)
abbrev pub named_set_up : State → Bool
named_set_up s =
    of_each 256 (is_used s) (λ i. parties_set_up s (s givers i) (s takers i))
    && of_each 256 (is_fop s) (λ i. basket_set_up s (s baskets_or_exposures i))
    && of_each 64 (is_in_use s) (λ e. parties_set_up s (s exposure_givers e) (s exposure_takers e) && basket_set_up s (s exposure_baskets e))

-- "FOP pairs belong to a used exposure with their key" (64 where there is none)
abbrev pub fop_pairs_belong : State → Bool
fop_pairs_belong s = of_each 256 (λ i. is_fop s i && is_paired s i) (λ i. ltb (exposure_of_fop s i) 64)

-- "returns name a used exposure of their giver and taker"
abbrev pub returns_name : State → Bool
returns_name s = of_each 256 (is_return s) (λ i. is_exposure_of s (s givers i) (s takers i) (s baskets_or_exposures i))

-- "exposures are at most 10^13"
abbrev pub exposures_within : State → Bool
exposures_within s = all (λ e. leb (s exposure_amounts e) greatest_exposure) 64 0

-- "used exposures have distinct keys": each from those in the rows before it
abbrev pub keys_distinct : State → Bool
keys_distinct s = of_each 64 (is_in_use s) (λ e. all (λ d. not (is_in_use s d && rows_alike s key_tables e d)) e 0)

-- the nominal of a security in an exposure's position; one that may stand there
abbrev pub position_in : State → ℕ → ℕ → ℕ
position_in s e i = s positions (64 * e + i)

abbrev pub position_stands : State → ℕ → ℕ → Bool
position_stands s e i = is_in_use s e && security_set_up s i && eqb (position_in s e i % s lots i) 0

-- "positions stand only in used exposures and in whole lots of securities set up"
abbrev pub positions_stand : State → Bool
positions_stand s = all (λ e. of_each 64 (λ i. not (eqb (position_in s e i) 0)) (position_stands s e)) 64 0

-- "an exposure of amount 0 has no position"
abbrev pub zero_has_no_position : State → Bool
zero_has_no_position s = of_each 64 (λ e. eqb (s exposure_amounts e) 0) (λ e. all (λ i. eqb (position_in s e i) 0) 64 0)

-- "account plus positions of a giver in one security is at most 500,000,000"
abbrev pub holdings_within : State → Bool
holdings_within s = all (λ p. all (λ i. leb (holding s p i) greatest_nominal) 64 0) 32 0

-- the sentence
abbrev pub sound_as_written : State → Bool
sound_as_written s =
    days_open s
    && fields_in_range s
    && numbers_distinct s
    && pairs_agree s
    && settled_within s
    && named_set_up s
    && fop_pairs_belong s
    && returns_name s
    && exposures_within s
    && keys_distinct s
    && positions_stand s
    && zero_has_no_position s
    && holdings_within s

-- the whole: the paper's sentence, and the layout's
unfoldable pub sound : State → Bool
sound s = sound_as_written s && sound_layout s
