-- The key of an exposure: its giver, taker, basket and closing day, and the slot that a key has among 1,024.
-- Assumes nothing.
use Rattle.std.specs.Prelude.{Bool, ℕ, ◌+◌, ◌*◌, ◌/◌, ◌%◌}
use Rattle.book.specs.Layout.{givers, takers, baskets_or_exposures, closings, exposure_givers, exposure_takers, exposure_baskets, exposure_closings}
use Rattle.book.specs.State.{State}
use Rattle.rules.specs.Requests.{has_key, exposure_with}
use Rattle.exposure_search.specs.declared.ExposureKey.{ExposureKey}

-- the key in the row e
abbrev pub key_of : State → ℕ → ExposureKey
key_of s e = record { giver = s exposure_givers e; taker = s exposure_takers e; basket = s exposure_baskets e; closing = s exposure_closings e }

-- the key of the request row i
abbrev pub request_key : State → ℕ → ExposureKey
request_key s i = record { giver = s givers i; taker = s takers i; basket = s baskets_or_exposures i; closing = s closings i }

-- the exposure e is used, with this key
abbrev pub is_at : State → ExposureKey → ℕ → Bool
is_at s key = has_key s key.giver key.taker key.basket key.closing

-- the row of the used exposure with this key, 64 where there is none
abbrev pub exposure_of : State → ExposureKey → ℕ
exposure_of s key = exposure_with s key.giver key.taker key.basket key.closing

-- the factors are odd and far apart, so that keys that differ little stand apart
abbrev pub key_slot : ℕ → ℕ → ℕ → ℕ → ℕ
key_slot giver taker basket closing =
    ((giver % 4294967296 * 40503001 + taker % 4294967296 * 73856093) + (basket % 4294967296 * 19349663 + closing % 4294967296 * 83492791)) / 1048576 % 1024
