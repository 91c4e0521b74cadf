-- What can be spared of a security, as the code finds it: without a search.
-- Assumes nothing.
use Rattle.std.specs.Prelude.{cond, ℕ, ◌+◌, ◌*◌, ◌-◌, ◌/◌, leb}
use Rattle.laws.specs.Search.{largest}
use Rattle.securities.specs.declared.Security.{Security}
use Rattle.valuation.specs.declared.Pricing.{Pricing}
use Rattle.valuation.specs.Value.{value}
use Rattle.valuation.specs.Inverse.{nominal_within}
use Rattle.parcels.specs.declared.Parcel.{Parcel}

-- Free, in one security, where the others of the position are worth so much: the largest count of lots that leaves it worth E or more
unfoldable pub lots_to_spare : Security → ℕ → ℕ → ℕ → ℕ
lots_to_spare s nominal others exposure = largest (λ k. leb exposure (others + value s.pricing (nominal - k * s.lot))) (nominal / s.lot)

-- the same as a nominal, with what the position loses in value
unfoldable pub parcel_to_spare : Security → ℕ → ℕ → ℕ → Parcel
parcel_to_spare s nominal others exposure =
    let n = lots_to_spare s nominal others exposure * s.lot in
    record { nominal = n; value = value s.pricing nominal - value s.pricing (nominal - n) }

-- the least nominal of a security that, with the others, is worth the exposure: 0, or one more than the largest that is worth less
unfoldable pub nominal_to_keep : ℕ → ℕ → Pricing → ℕ
nominal_to_keep others exposure p = cond (leb exposure others) 0 (nominal_within p (exposure - others - 1) + 1)
