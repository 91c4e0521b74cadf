-- Request rows: what is said of one, and of a pair.
-- Assumes nothing.
use Rattle.std.specs.Prelude.{Bool, not, ◌&&◌, ◌||◌, [], ◌∷◌, ℕ, ◌-◌, eqb, leb}
use Rattle.laws.specs.Bits.{has_bit}
use Rattle.laws.specs.Search.{least}
use Rattle.calendar.specs.Target.{open_day}
use Rattle.book.specs.Layout.{modes, lists, partials, numbers, request_kinds, sides, givers, takers, baskets_or_exposures, amounts, closings, settled_amounts, partners, ends, in_use, exposure_givers, exposure_takers, key_tables}
use Rattle.book.specs.State.{State, row_is}
use Rattle.rules.specs.Fields.{fop_kind, return_kind, giver_side, taker_side, automatic, by_list, stored_mode}

-- the row is used: it has a request's number
abbrev pub is_used : State → ℕ → Bool
is_used s i = not (eqb (s numbers i) 0)

abbrev pub is_fop : State → ℕ → Bool
is_fop s i = eqb (s request_kinds i) fop_kind

abbrev pub is_return : State → ℕ → Bool
is_return s i = eqb (s request_kinds i) return_kind

-- "a closing may be 0"
abbrev pub open_or_none : ℕ → Bool
open_or_none d = eqb d 0 || open_day d

-- paired: it names a partner; the partner's row
abbrev pub is_paired : State → ℕ → Bool
is_paired s i = not (eqb (s partners i) 0)

abbrev pub partner_of : State → ℕ → ℕ
partner_of s i = s partners i - 1

-- settled whole; what is left to settle
abbrev pub is_whole : State → ℕ → Bool
is_whole s i = leb (s amounts i) (s settled_amounts i)

abbrev pub rest_of : State → ℕ → ℕ
rest_of s i = s amounts i - s settled_amounts i

-- "A request is live until it ends or has settled whole."
abbrev pub is_live : State → ℕ → Bool
is_live s i = is_used s i && (eqb (s ends i) 0 && not (is_whole s i))

-- the owner: the giver of side 0, the taker of side 1
abbrev pub is_owner : State → ℕ → ℕ → Bool
is_owner s i p = (eqb (s sides i) giver_side && eqb (s givers i) p) || (eqb (s sides i) taker_side && eqb (s takers i) p)

-- "the taker is automatic, or lists that giver", by the profile in force
abbrev pub accepts_giver : State → ℕ → ℕ → Bool
accepts_giver s taker giver = eqb (s modes taker) (stored_mode automatic) || (eqb (s modes taker) (stored_mode by_list) && has_bit (s lists taker) giver)

-- both parties allow partial settlement now
abbrev pub allow_partial : State → ℕ → ℕ → Bool
allow_partial s giver taker = eqb (s partials giver) 1 && eqb (s partials taker) 1

-- the exposure row is used; "used exposure of that giver (and taker)"
abbrev pub is_in_use : State → ℕ → Bool
is_in_use s e = eqb (s in_use e) 1

abbrev pub is_exposure_of : State → ℕ → ℕ → ℕ → Bool
is_exposure_of s giver taker e = is_in_use s e && (eqb (s exposure_givers e) giver && eqb (s exposure_takers e) taker)

-- a used exposure with a key: "its giver, taker, basket and closing date"
abbrev pub has_key : State → ℕ → ℕ → ℕ → ℕ → ℕ → Bool
has_key s giver taker basket closing e = is_in_use s e && row_is s key_tables e (giver ∷ taker ∷ basket ∷ closing ∷ [])

-- its row, 64 where there is none; and "the lowest free row", 64 where there is none
abbrev pub exposure_with : State → ℕ → ℕ → ℕ → ℕ → ℕ
exposure_with s giver taker basket closing = least (has_key s giver taker basket closing) 64 0

abbrev pub free_exposure : State → ℕ
free_exposure s = least (λ e. eqb (s in_use e) 0) 64 0

-- the lowest request row that is not used, 256 where there is none
abbrev pub free_row : State → ℕ
free_row s = least (λ i. eqb (s numbers i) 0) 256 0

-- the exposure that a FOP row belongs to when paired
abbrev pub exposure_of_fop : State → ℕ → ℕ
exposure_of_fop s i = exposure_with s (s givers i) (s takers i) (s baskets_or_exposures i) (s closings i)
