-- Demand 2: "Every legal record reads back as it was written, and every record read writes back to its bytes."
-- Assumes nothing.
use Rattle.std.specs.Prelude.{◌≡◌, List, ℕ, ◌<◌, length, get_or}
use Rattle.record_kinds.specs.Kinds.{places}
use Rattle.records.specs.Reading.{read, taken}
use Rattle.records.specs.Writing.{write_code, written}

-- whatever the writer accepts reads back as it was written, whichever part was lent
abbrev pub ReadsBack : Type 0
ReadsBack = (k : ℕ) (fields part : List ℕ) → length fields ≡ places → write_code k fields part ≡ 0 → read (written k fields part) ≡ taken k fields

-- a record that the reader takes is accepted by the writer, for any part of its length, and becomes its bytes
pub record WrittenBack (b part : List ℕ) : Type 0 where
  pub accepted : write_code (read b).kind (read b).fields part ≡ 0
  pub bytes : written (read b).kind (read b).fields part ≡ b

abbrev pub WritesBack : Type 0
WritesBack = (b part : List ℕ) → ((i : ℕ) → get_or b i 0 < 256) → (read b).code ≡ 0 → length part ≡ length b → WrittenBack b part
