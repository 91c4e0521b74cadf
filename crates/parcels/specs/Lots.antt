-- Whole lots of one security: how many to pick, how many to give back.
-- Assumes nothing.
use Rattle.std.specs.Prelude.{ℕ, ◌*◌, ◌/◌, leb}
use Rattle.laws.specs.Search.{largest}
use Rattle.securities.specs.declared.Security.{Security}
use Rattle.valuation.specs.Value.{value}
use Rattle.parcels.specs.declared.Parcel.{Parcel}

-- a nominal of a security with its value
abbrev pub parcel : Security → ℕ → Parcel
parcel s nominal = record { nominal = nominal; value = value s.pricing nominal }

-- no nominal
abbrev pub no_parcel : Parcel
no_parcel = record { nominal = 0; value = 0 }

-- Pick: "the largest count of whole lots in the account whose value is not above what remains of X"
unfoldable pub lots_to_pick : Security → ℕ → ℕ → ℕ
lots_to_pick s account remains = largest (λ k. leb (value s.pricing (k * s.lot)) remains) (account / s.lot)

-- the same as a nominal with its value
unfoldable pub parcel_to_pick : Security → ℕ → ℕ → Parcel
parcel_to_pick s account remains = parcel s (lots_to_pick s account remains * s.lot)
