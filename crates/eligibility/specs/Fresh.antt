-- The first fresh day of each basket: what it counts on, what it says, and what it depends on.
-- Assumes nothing.
use Rattle.std.specs.Prelude.{◌≡◌, List, ℕ, ◌≤◌, ◌<◌, get_or}
use Rattle.baskets.specs.Fresh.{FreshSince}
use Rattle.book.specs.Layout.{today, greatest_ages}
use Rattle.book.specs.State.{State, columns_of}
use Rattle.eligibility.specs.declared.Prices.{Prices}

-- no basket below n takes a price older than `most`
pub record Aged (most n : ℕ) (s : State) : Type 0 where
  pub each : (b : ℕ) → b < n → s greatest_ages b ≤ most

-- of the securities of the book, those quoted on a basket's day or later are those with a price no older than it takes
pub record FreshBaskets (s : State) (since : List ℕ) : Type 0 where
  pub each : (b : ℕ) → b < 16 → FreshSince (columns_of s) (s today 0) (s greatest_ages b) (get_or since b 0)

-- what a state's prices are worth on its day
pub record PricesOf (s : State) (prices : Prices) : Type 0 where
  pub columns : prices.columns ≡ columns_of s
  pub fresh : FreshBaskets s prices.since

-- what such prices depend on is as it was
pub record SamePrices (s t : State) : Type 0 where
  pub columns : columns_of t ≡ columns_of s
  pub day : t today 0 ≡ s today 0
  pub ages_kept : (b : ℕ) → t greatest_ages b ≡ s greatest_ages b
