-- The tables by their names in the code, and the number of each in the layout.
-- Assumes nothing.
use Rattle.std.specs.Prelude.{ℕ, List, map}
use Rattle.book.specs.Layout.{today, tolerance, next_number, lots, prices, haircuts, quote_days, modes, lists, partials, waiting_modes, waiting_lists, waiting_partials, maps, greatest_ages, numbers, request_kinds, sides, givers, takers, baskets_or_exposures, amounts, settlements, closings, references, settled_amounts, partners, pair_partials, cancels, ends, in_use, exposure_givers, exposure_takers, exposure_baskets, exposure_closings, exposure_amounts, accounts, positions, spares}
use Rattle.book.specs.declared.layout.Table.{Table}
use Rattle.book.specs.declared.layout.Table.TheVariants.{Today, Tolerance, NextNumber, Lots, Prices, Haircuts, QuoteDays, Modes, Lists, Partials, WaitingModes, WaitingLists, WaitingPartials, Maps, GreatestAges, Numbers, RequestKinds, Sides, Givers, Takers, BasketsOrExposures, Amounts, Settlements, Closings, References, SettledAmounts, Partners, PairPartials, Cancels, Ends, InUse, ExposureGivers, ExposureTakers, ExposureBaskets, ExposureClosings, ExposureAmounts, Accounts, Positions, Spares}

abbrev pub number : Table → ℕ
number Today = today
number Tolerance = tolerance
number NextNumber = next_number
number Lots = lots
number Prices = prices
number Haircuts = haircuts
number QuoteDays = quote_days
number Modes = modes
number Lists = lists
number Partials = partials
number WaitingModes = waiting_modes
number WaitingLists = waiting_lists
number WaitingPartials = waiting_partials
number Maps = maps
number GreatestAges = greatest_ages
number Numbers = numbers
number RequestKinds = request_kinds
number Sides = sides
number Givers = givers
number Takers = takers
number BasketsOrExposures = baskets_or_exposures
number Amounts = amounts
number Settlements = settlements
number Closings = closings
number References = references
number SettledAmounts = settled_amounts
number Partners = partners
number PairPartials = pair_partials
number Cancels = cancels
number Ends = ends
number InUse = in_use
number ExposureGivers = exposure_givers
number ExposureTakers = exposure_takers
number ExposureBaskets = exposure_baskets
number ExposureClosings = exposure_closings
number ExposureAmounts = exposure_amounts
number Accounts = accounts
number Positions = positions
number Spares = spares

-- the numbers of some tables
abbrev pub numbers_of : List Table → List ℕ
numbers_of = map number
