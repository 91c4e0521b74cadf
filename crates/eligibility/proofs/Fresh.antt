-- The first fresh day of each basket.
-- Assumes nothing.
use mathlib.Core.Path.{◌≡◌, refl, sym, ◌∙◌}
use mathlib.Core.List.{List}
use Prim.Native.Nat.{ℕ, ◌+◌, ◌≤◌}
use native.Mathlib.Decide.{ℕ_discrete}
use native.Mathlib.Nat.{le_refl}
use native.Mathlib.Omega.{arith}
use lib.ListN.{get_or}
use Rattle.laws.specs.Filled.{filled}
use Rattle.laws.proofs.Filled.{filled_at}
use Rattle.baskets.specs.Fresh.{FreshAges}
use Rattle.book.specs.Layout.{today, lots, prices, haircuts, quote_days, greatest_ages}
use Rattle.book.specs.State.{State, columns_of}
use Rattle.facts.specs.Good.{Sound}
use Rattle.facts.proofs.Stock.{age_le, columns_same}
use Rattle.eligibility.specs.Fresh.{Aged, FreshBaskets, PricesOf, SamePrices}
use Rattle.eligibility.specs.declared.Prices.{Prices}

-- a sound book's baskets take prices of 255 open days at most
pub sound_aged : (s : State) → Sound s → Aged 255 16 s
sound_aged s f = record { each = age_le s f }

-- one basket more
pub aged_first : (most : ℕ) (s : State) → Aged most 0 s
aged_first most s = record { each = λ b l. absurd (omega arith) }

pub aged_next : {most n : ℕ} {s : State} → Aged most n s → {more a : ℕ} → a ≡ s greatest_ages n → most ≤ more → a ≤ more → Aged more (n + 1) s
aged_next {most} {n} {s} h {more} q l m = record {
  each = λ b k. elim (ℕ_discrete b n) [
    | yes e ↦ rw e (omega arith)
    | no d ↦ omega (arith, h.each b (omega arith))
  ];
}

-- the days of all ages, looked up for each basket
pub baskets_fresh : {s : State} {columns days since : List ℕ} {most day : ℕ} → columns ≡ columns_of s → day ≡ s today 0 → Aged most 16 s → FreshAges columns day most days
    → since ≡ filled (λ b. get_or days (s greatest_ages b) 0) 16 16 → FreshBaskets s since
baskets_fresh {s} {columns} {days} {since} {most} {day} cq dq a f q = record {
  each = λ b l.
      let found : get_or since b 0 ≡ get_or days (s greatest_ages b) 0 = rw q (filled_at (λ b. get_or days (s greatest_ages b) 0) 16 16 b (le_refl 16) l) in
      rw (found, ← cq, ← dq) (f.each (s greatest_ages b) (a.each b l));
}

-- the same prices are worth the same
pub fresh_same : {s t : State} {since : List ℕ} → SamePrices s t → FreshBaskets s since → FreshBaskets t since
fresh_same {s} {t} k f = record { each = λ b l. rw (k.columns, k.day, k.ages_kept b) (f.each b l) }

pub prices_same : {s t : State} {prices : Prices} → SamePrices s t → PricesOf s prices → PricesOf t prices
prices_same k p = record { columns = p.columns ∙ sym k.columns; fresh = fresh_same k p.fresh }

pub same_start : (s : State) → SamePrices s s
same_start s = record { columns = refl; day = refl; ages_kept = λ b. refl }

pub same_then : {s t u : State} → SamePrices s t → SamePrices t u → SamePrices s u
same_then k l = record { columns = l.columns ∙ k.columns; day = l.day ∙ k.day; ages_kept = λ b. l.ages_kept b ∙ k.ages_kept b }

-- table by table
module _ (s t : State) (lot : (i : ℕ) → t lots i ≡ s lots i) (price : (i : ℕ) → t prices i ≡ s prices i) (haircut : (i : ℕ) → t haircuts i ≡ s haircuts i) (quote : (i : ℕ) → t quote_days i ≡ s quote_days i) where
  pub same_prices : t today 0 ≡ s today 0 → ((b : ℕ) → t greatest_ages b ≡ s greatest_ages b) → SamePrices s t
  same_prices d a = record { columns = columns_same s t lot price haircut quote; day = d; ages_kept = a }
