-- Free as the code takes it, security by security.
-- Assumes nothing.
use Rattle.std.specs.Prelude.{cond, List, ℕ, ◌-◌, ltb, get_or}
use Rattle.securities.specs.Position.{worth}
use Rattle.securities.specs.Security.{security_at}
use Rattle.parcels.specs.Spare.{parcel_to_spare}
use Rattle.parcels.specs.declared.Parcel.{Parcel}
use Rattle.valuation.specs.Value.{value}

-- the securities that Free looks at, as a number: none where the position is worth less than the exposure, else all 64
abbrev pub first_to_free : ℕ → ℕ → ℕ
first_to_free worth exposure = cond (ltb worth exposure) 0 64

-- what the free gives back of the security i, and what the position, worth so much in all, loses by it
abbrev pub parcel_back : List ℕ → List ℕ → ℕ → ℕ → ℕ → Parcel
parcel_back columns position i worth exposure =
    let s = security_at columns i in
    let n = get_or position i 0 in
    parcel_to_spare s n (worth - value s.pricing n) exposure
