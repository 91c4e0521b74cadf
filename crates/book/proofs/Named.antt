-- The tables by their names: each is one of the layout's.
-- Assumes nothing.
use Prim.Native.Nat.{◌<◌}
use native.Mathlib.Omega.{arith}
use Rattle.book.specs.Layout.{table_count}
use Rattle.book.specs.Tables.{number}
use Rattle.book.specs.declared.layout.Table.{Table}
use Rattle.book.specs.declared.layout.Table.TheVariants.{Today, Tolerance, NextNumber, Lots, Prices, Haircuts, QuoteDays, Modes, Lists, Partials, WaitingModes, WaitingLists, WaitingPartials, Maps, GreatestAges, Numbers, RequestKinds, Sides, Givers, Takers, BasketsOrExposures, Amounts, Settlements, Closings, References, SettledAmounts, Partners, PairPartials, Cancels, Ends, InUse, ExposureGivers, ExposureTakers, ExposureBaskets, ExposureClosings, ExposureAmounts, Accounts, Positions, Spares}

pub number_known : (t : Table) → number t < table_count
number_known Today = omega arith
number_known Tolerance = omega arith
number_known NextNumber = omega arith
number_known Lots = omega arith
number_known Prices = omega arith
number_known Haircuts = omega arith
number_known QuoteDays = omega arith
number_known Modes = omega arith
number_known Lists = omega arith
number_known Partials = omega arith
number_known WaitingModes = omega arith
number_known WaitingLists = omega arith
number_known WaitingPartials = omega arith
number_known Maps = omega arith
number_known GreatestAges = omega arith
number_known Numbers = omega arith
number_known RequestKinds = omega arith
number_known Sides = omega arith
number_known Givers = omega arith
number_known Takers = omega arith
number_known BasketsOrExposures = omega arith
number_known Amounts = omega arith
number_known Settlements = omega arith
number_known Closings = omega arith
number_known References = omega arith
number_known SettledAmounts = omega arith
number_known Partners = omega arith
number_known PairPartials = omega arith
number_known Cancels = omega arith
number_known Ends = omega arith
number_known InUse = omega arith
number_known ExposureGivers = omega arith
number_known ExposureTakers = omega arith
number_known ExposureBaskets = omega arith
number_known ExposureClosings = omega arith
number_known ExposureAmounts = omega arith
number_known Accounts = omega arith
number_known Positions = omega arith
number_known Spares = omega arith
