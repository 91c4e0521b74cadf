-- The writer: "The writer gives 4 for other fields, 3 for an unknown kind or a lent part of another length, and then leaves that part."
-- Assumes nothing.
use Rattle.std.specs.Prelude.{Bool, not, ◌||◌, cond, List, [], ◌∷◌, ◌++◌, ℕ, zero, suc, eqb, length, get_or}
use Rattle.answers.specs.Answers.{malformed, out_of_range}
use Rattle.record_kinds.specs.Kinds.{places, known, field_bytes, length_of, in_ranges}
use Rattle.laws.specs.Numbers.{bytes_of}

-- the bytes of a record up to its field j: one byte of kind, then the fields in order
unfoldable pub record_bytes_to : ℕ → List ℕ → ℕ → List ℕ
record_bytes_to k fields zero = k ∷ []
record_bytes_to k fields (suc j) = record_bytes_to k fields j ++ bytes_of (field_bytes k j) (get_or fields j 0)

-- the bytes of a record
abbrev pub record_bytes : ℕ → List ℕ → List ℕ
record_bytes k fields = record_bytes_to k fields places

-- a record's numbers are in the ranges of its kind's fields, those past the last field 0
abbrev pub are_legal : ℕ → List ℕ → Bool
are_legal k fields = in_ranges k (λ j. get_or fields j 0)

-- code 3: an unknown kind, or a lent part of another length than the record's
unfoldable pub misfits : ℕ → List ℕ → Bool
misfits k part = not (known k) || not (eqb (length part) (length_of k))

-- the writer's code
unfoldable pub write_code : ℕ → List ℕ → List ℕ → ℕ
write_code k fields part = cond (misfits k part) malformed (cond (are_legal k fields) 0 out_of_range)

-- the lent part after the call
unfoldable pub written : ℕ → List ℕ → List ℕ → List ℕ
written k fields part = cond (eqb (write_code k fields part) 0) (record_bytes k fields) part
