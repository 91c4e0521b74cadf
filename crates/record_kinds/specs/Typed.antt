-- What the code and the proofs need besides: the code's names for the fields, a kind's row of the table, the widths that there are.
-- Assumes nothing.
use Rattle.std.specs.Prelude.{Bool, ◌||◌, List, [], ◌++◌, ℕ, ◌-◌, eqb, length, get_or, replicate}
use Rattle.record_kinds.specs.Kinds.{kinds, places, empty, any_of, participant, security, basket, exposure, side, day, nominal, amount, tolerance_field, lot, price, haircut, mode, partial, map_field, recall_nominal}
use Rattle.record_kinds.specs.declared.Field.{Field}
use Rattle.record_kinds.specs.declared.FieldType.{FieldType}
use Rattle.record_kinds.specs.declared.FieldType.TheVariants.{Empty, Any8, Any32, Any64, Participant, Security, Basket, Exposure, Side, Day, Nominal, Amount, Tolerance, Lot, Price, Haircut, Mode, Partial, Map, RecallNominal}

-- how many kinds the code knows: proved to be the table's
abbrev pub kind_count : ℕ
kind_count = 13

-- the code's names for the fields
abbrev pub typed : FieldType → Field
typed Empty = empty
typed Any8 = any_of 8
typed Any32 = any_of 32
typed Any64 = any_of 64
typed Participant = participant
typed Security = security
typed Basket = basket
typed Exposure = exposure
typed Side = side
typed Day = day
typed Nominal = nominal
typed Amount = amount
typed Tolerance = tolerance_field
typed Lot = lot
typed Price = price
typed Haircut = haircut
typed Mode = mode
typed Partial = partial
typed Map = map_field
typed RecallNominal = recall_nominal

-- the places of a kind: its fields, then empty ones
abbrev pub row : ℕ → List Field
row k = get_or kinds k [] ++ replicate (places - length (get_or kinds k [])) empty

-- the bytes that a place may have
abbrev pub is_width : ℕ → Bool
is_width w = eqb w 0 || (eqb w 1 || (eqb w 2 || (eqb w 4 || eqb w 8)))
