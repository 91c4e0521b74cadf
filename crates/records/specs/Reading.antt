-- The reader: "The reader alone gives 3, or 4 by these ranges (a FOP amount from 1); what it takes is legal."
-- Assumes nothing.
use Rattle.std.specs.Prelude.{Bool, not, ◌||◌, cond, List, ℕ, eqb, length, get_or, replicate}
use Rattle.answers.specs.Answers.{malformed, out_of_range}
use Rattle.laws.specs.Filled.{filled}
use Rattle.record_kinds.specs.Kinds.{places, known, field_bytes, offset_of, length_of, in_ranges}
use Rattle.laws.specs.Numbers.{number_at}
use Rattle.records.specs.declared.Reading as declared

-- a record that was read: its kind and its numbers
abbrev pub taken : ℕ → List ℕ → declared.Reading
taken k fields = record { code = 0; kind = k; fields = fields }

-- a refusal: the other numbers are 0
abbrev pub refused_reading : ℕ → declared.Reading
refused_reading c = record { code = c; kind = 0; fields = replicate places 0 }

-- the number in the field j of the bytes of a record of kind k
unfoldable pub field_in : List ℕ → ℕ → ℕ → ℕ
field_in b k j = number_at b (offset_of k j) (field_bytes k j)

-- code 3: "no or unknown kind, or body of another length"
unfoldable pub is_malformed : List ℕ → Bool
is_malformed b = eqb (length b) 0 || (not (known (get_or b 0 0)) || not (eqb (length b) (length_of (get_or b 0 0))))

-- what the reader makes of any bytes
unfoldable pub read : List ℕ → declared.Reading
read b =
    let k = get_or b 0 0 in
    cond (is_malformed b) (refused_reading malformed)
    (cond (in_ranges k (field_in b k)) (taken k (filled (field_in b k) places places)) (refused_reading out_of_range))
