-- Document 01, "Records": the table of kinds.
-- Assumes nothing.
use Rattle.std.specs.Prelude.{Bool, ◌&&◌, List, [], ◌∷◌, ℕ, ◌+◌, ◌-◌, ◌/◌, ◌^◌, leb, ltb, length, get_or}
use Rattle.limits.specs.Limits.{greatest_amount, greatest_haircut, greatest_lot, greatest_nominal, greatest_price, greatest_tolerance}
use Rattle.laws.specs.Search.{all}
use Rattle.laws.specs.Sum.{sum}
use Rattle.record_kinds.specs.declared.Field.{Field}

-- a field: "Widths in bits", the least and the greatest number that it may hold
abbrev pub bits : ℕ → ℕ → ℕ → Field
bits w l g = record { bytes = w / 8; least = l; greatest = g }

-- a field with no range of its own: any number of its bits
abbrev pub any_of : ℕ → Field
any_of w = bits w 0 (2 ^ w - 1)

-- "32 participants (0 to 31), 64 securities, 16 baskets, .. 64 exposures"
abbrev pub participant : Field
participant = bits 8 0 31

abbrev pub security : Field
security = bits 8 0 63

abbrev pub basket : Field
basket = bits 8 0 15

abbrev pub exposure : Field
exposure = bits 8 0 63

-- 0: a day above 146,096 is refused by 7 and not by 4, so the reader takes any; "tolerance 32 (1 to 100,000,000)"
abbrev pub day : Field
day = any_of 32

abbrev pub tolerance_field : Field
tolerance_field = bits 32 1 greatest_tolerance

-- 1: "lot 32 (1 to 1,000,000), price 32 (1 to 3,000,000; 1,000,000 is par), haircut 16 (0 to 9,999 hundredths of a percent), quote day 32"
abbrev pub lot : Field
lot = bits 32 1 greatest_lot

abbrev pub price : Field
price = bits 32 1 greatest_price

abbrev pub haircut : Field
haircut = bits 16 0 greatest_haircut

abbrev pub quote_day : Field
quote_day = day

-- 2: "mode 8 (0 automatic, 1 list, 2 by hand), list 32 (bit n is giver n), partial 8 (0, 1)"
abbrev pub mode : Field
mode = bits 8 0 2

abbrev pub list : Field
list = any_of 32

abbrev pub partial : Field
partial = bits 8 0 1

-- 3: "map 64 (bit n is security n, not 0), greatest age 8"
abbrev pub map_field : Field
map_field = bits 64 1 (2 ^ 64 - 1)

abbrev pub greatest_age : Field
greatest_age = any_of 8

-- 4, 5: "nominal 32 (1 to 500,000,000)"
abbrev pub nominal : Field
nominal = bits 32 1 greatest_nominal

-- 6, 7: "side 8 (0 giver, 1 taker), .. amount 64 (.. to 10^12), settlement 32, closing 32 (0 means open-ended), reference 64"; "a FOP amount from 1"
abbrev pub side : Field
side = bits 8 0 1

abbrev pub giver : Field
giver = participant

abbrev pub taker : Field
taker = participant

abbrev pub amount : Field
amount = bits 64 1 greatest_amount

abbrev pub settlement_day : Field
settlement_day = day

abbrev pub closing_day : Field
closing_day = day

abbrev pub reference : Field
reference = any_of 64

-- 8: "request number 32"
abbrev pub request_field : Field
request_field = any_of 32

-- 11: "nominal 32 (whole lots, 1 or more)"; whole lots are no matter of the reader
abbrev pub recall_nominal : Field
recall_nominal = bits 32 1 (2 ^ 32 - 1)

-- each kind's fields, kind after kind
unfoldable pub kinds : List (List Field)
kinds =
    -- 0 opening
    (day ∷ tolerance_field ∷ [])
    -- 1 price
    ∷ (security ∷ lot ∷ price ∷ haircut ∷ quote_day ∷ [])
    -- 2 participant
    ∷ (participant ∷ mode ∷ list ∷ partial ∷ [])
    -- 3 basket
    ∷ (basket ∷ map_field ∷ greatest_age ∷ [])
    -- 4 deposit
    ∷ (participant ∷ security ∷ nominal ∷ [])
    -- 5 withdrawal
    ∷ (participant ∷ security ∷ nominal ∷ [])
    -- 6 FOP
    ∷ (side ∷ giver ∷ taker ∷ basket ∷ amount ∷ settlement_day ∷ closing_day ∷ reference ∷ [])
    -- 7 return
    ∷ (side ∷ giver ∷ taker ∷ exposure ∷ amount ∷ settlement_day ∷ reference ∷ [])
    -- 8 cancel
    ∷ (participant ∷ request_field ∷ [])
    -- 9 settle
    ∷ []
    -- 10 mark
    ∷ []
    -- 11 recall
    ∷ (giver ∷ exposure ∷ security ∷ recall_nominal ∷ [])
    -- 12 next day
    ∷ []
    ∷ []

-- the numbers that any record is read to and written from: those of its fields, then zeros
abbrev pub places : ℕ
places = 8

-- a place past the last field: no byte, and the number 0
abbrev pub empty : Field
empty = bits 0 0 0

-- a kind of the table
abbrev pub known : ℕ → Bool
known k = ltb k (length kinds)

-- the field j of the kind k
abbrev pub field_of : ℕ → ℕ → Field
field_of k j = get_or (get_or kinds k []) j empty

abbrev pub field_bytes : ℕ → ℕ → ℕ
field_bytes k j = (field_of k j).bytes

-- where the field j begins: after the kind's byte and the fields before it
unfoldable pub offset_of : ℕ → ℕ → ℕ
offset_of k j = 1 + sum (field_bytes k) j

-- "One byte of kind, then a body whose length the kind fixes"
abbrev pub length_of : ℕ → ℕ
length_of k = offset_of k places

-- a number is in the range of the field j
abbrev pub in_range : ℕ → ℕ → ℕ → Bool
in_range k j x = leb (field_of k j).least x && leb x (field_of k j).greatest

-- each of a record's numbers is in the range of its field
abbrev pub in_ranges : ℕ → (ℕ → ℕ) → Bool
in_ranges k number = all (λ j. in_range k j (number j)) places 0
