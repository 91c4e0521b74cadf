-- Document 01, "Steps": Free down to exposure E. What it leaves says the nominal given back of each of the 64 securities,
-- the value of the position that is left, and how many securities gave back.
-- Assumes nothing.
use Rattle.std.specs.Prelude.{Bool, List, ℕ, zero, suc, ◌+◌, ◌*◌, ◌-◌, ◌/◌, min, leb, get_or, set, replicate}
use Rattle.laws.specs.Search.{largest}
use Rattle.securities.specs.Position.{worth, nominals_of}
use Rattle.securities.specs.Security.{security_at}
use Rattle.picking.specs.declared.Freed.{Freed}

module _ (columns position : List ℕ) where
  -- the position that is left when so much was given back
  abbrev pub remaining : List ℕ → ℕ → ℕ
  remaining given i = get_or position i 0 - get_or given i 0

  -- "leaves the position worth E or more": with k lots of security i given back too
  abbrev pub enough : ℕ → List ℕ → ℕ → ℕ → Bool
  enough exposure given i k = leb exposure (worth columns (remaining (set given i (k * (security_at columns i).lot))))

  -- "the largest count of lots that leaves the position worth E or more; none if it is below E"
  unfoldable pub lots_to_free : ℕ → List ℕ → ℕ → ℕ
  lots_to_free exposure given i = largest (enough exposure given i) (get_or position i 0 / (security_at columns i).lot)

  -- nothing given back yet
  unfoldable pub whole : Freed
  whole = record { nominals = replicate 64 0; left = worth columns (nominals_of position); count = 0 }

  -- with that many lots of security i given back
  unfoldable pub free_from : ℕ → ℕ → Freed → Freed
  free_from exposure i o =
      let n = lots_to_free exposure o.nominals i * (security_at columns i).lot in
      let given = set o.nominals i n in
      record { nominals = given; left = worth columns (remaining given); count = o.count + min n 1 }

  -- "by falling number": the n highest-numbered
  unfoldable pub freed_above : ℕ → ℕ → Freed
  freed_above exposure zero = whole
  freed_above exposure (suc n) = free_from exposure (63 - n) (freed_above exposure n)

  -- Free
  abbrev pub freed : ℕ → Freed
  freed exposure = freed_above exposure 64
