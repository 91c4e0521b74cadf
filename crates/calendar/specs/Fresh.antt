-- Which prices are fresh, by the day of their quote: a price is the younger the later its quote.
-- Assumes nothing.
use Rattle.std.specs.Prelude.{◌≡◌, List, ℕ, ◌≤◌, leb, get_or}
use Rattle.calendar.specs.Target.{age}

-- a day for each greatest age up to `most`: a price, quoted no earlier than `from`, is no older exactly where its quote is not before that day
pub record FreshDays (from today most : ℕ) (days : List ℕ) : Type 0 where
  pub right : (g quote : ℕ) → g ≤ most → from ≤ quote → leb (age quote today) g ≡ leb (get_or days g 0) quote
