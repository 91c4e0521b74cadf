-- What a used row has besides its fields.
-- Assumes nothing.
use Rattle.std.specs.Prelude.{Bool, ◌&&◌, cond, ℕ, eqb}
use Rattle.book.specs.State.{State}
use Rattle.rules.specs.Requests.{is_paired}
use Rattle.rules.specs.ByRow.{sound_paired, sound_unpaired}
use Rattle.sound_fields.specs.declared.Request as declared

-- `sound_unpaired` of what was read
abbrev pub unpaired_of : declared.Request → Bool
unpaired_of q = eqb q.settled 0 && eqb q.partial 0

-- a pair, or nothing settled
abbrev pub sound_rest : State → ℕ → Bool
sound_rest s i = cond (is_paired s i) (sound_paired s i) (sound_unpaired s i)
