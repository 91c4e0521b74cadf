-- What a host gets of the reader's outcome.
-- Assumes nothing.
use Rattle.std.specs.Prelude.{Result, Ok, Err}
use Rattle.answers.specs.declared.Refusal.{Refusal}
use Rattle.answers.specs.Refusals.{number}
use Rattle.record_kinds.specs.Numbered.{kind_number}
use Rattle.records.specs.Reading.{taken, refused_reading}
use Rattle.records.specs.declared.Reading as declared
use Rattle.records.specs.declared.record.Record.{Record}

-- the kind and the numbers of a record that was read, or the code of a refusal
abbrev pub reading_of : Result Record Refusal → declared.Reading
reading_of (Ok r) = taken (kind_number r.kind) r.fields
reading_of (Err refusal) = refused_reading (number refusal)
