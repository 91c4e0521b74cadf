-- What a sound book with its securities is worth to picking and valuation: the bounds of what the code has read out of it.
-- Assumes nothing.
use mathlib.Core.Path.{◌≡◌, sym, ◌∙◌}
use mathlib.Core.List.{List}
use Prim.Native.Nat.{ℕ, ◌≤◌, ◌<◌}
use lib.ListN.{get_or}
use Rattle.securities.specs.Position.{nominals_of}
use Rattle.securities.specs.Bounds.{AllInBounds, Within}
use Rattle.book.specs.Layout.{in_use, exposure_baskets, exposure_amounts}
use Rattle.book.specs.State.{state}
use Rattle.book.proofs.Images.{state_fits}
use Rattle.rules.specs.Stock.{position_of}
use Rattle.facts.proofs.Written.{sound_facts}
use Rattle.facts.specs.Good.{Sound, Good}
use Rattle.facts.proofs.Rows.{Exposure, used_exposure}
use Rattle.facts.proofs.Stock.{columns_bounded, position_within}
use Rattle.bonds.specs.Moves.{SoundBook}

module _ {book columns : List ℕ} (m : SoundBook book columns) where
  pub facts_of : Sound (state book)
  facts_of = sound_facts (state book) m.sound_book

  -- its bytes make a good state
  pub good_of : ((i : ℕ) → get_or book i 0 < 256) → Good (state book)
  good_of small = record { facts = facts_of; fits = state_fits book m.long small }

  pub bounded : AllInBounds columns
  bounded = rw m.securities (columns_bounded (state book) facts_of)

  module _ {e : ℕ} (below : e < 64) where
    pub row_within : {row : List ℕ} → row ≡ position_of (state book) e → Within (nominals_of row)
    row_within q = rw q (position_within (state book) facts_of e below)

    -- of a used exposure: its basket, its amount
    module _ {u : ℕ} (q : u ≡ state book in_use e) (o : u ≡ 1) where
      exposure_of_lem : Exposure (state book) e
      exposure_of_lem = used_exposure (state book) e (facts_of.exposure e below) (sym q ∙ o)

      pub basket_below : state book exposure_baskets e < 16
      basket_below = exposure_of_lem.basket_below

      pub amount_le : state book exposure_amounts e ≤ 10000000000000
      amount_le = exposure_of_lem.amount
