-- What the layout adds to document 01's soundness: rows that are not used hold nothing, and marks that the book keeps are in their ranges.
-- Assumes nothing.
use Rattle.std.specs.Prelude.{Bool, not, ◌&&◌, ◌||◌, cond, List, ℕ, eqb, leb}
use Rattle.limits.specs.Limits.{greatest_next}
use Rattle.laws.specs.Search.{between, all, of_each}
use Rattle.book.specs.Layout.{next_number, waiting_modes, closings, pair_partials, cancels, ends, spares, security_tables, profile_tables, waiting_tables, basket_tables, request_tables, exposure_tables, rows_of}
use Rattle.book.specs.State.{State, row_blank}
use Rattle.rules.specs.Requests.{is_used, is_return, is_paired, partner_of, is_in_use}
use Rattle.rules.specs.Stock.{participant_set_up, security_set_up, basket_set_up}

-- rows of some tables hold nothing where they are not used
abbrev pub blank_unless : State → ℕ → (ℕ → Bool) → List ℕ → Bool
blank_unless s n used tables = all (λ i. used i || row_blank s tables i) n 0

-- a change of a participant's profile waits for the next day
abbrev pub change_waits : State → ℕ → Bool
change_waits s p = not (eqb (s waiting_modes p) 0)

-- rows that are not used, and spare rows, hold nothing; of accounts the paper asks the 500,000,000 only
abbrev pub unused_blank : State → Bool
unused_blank s =
    blank_unless s 64 (security_set_up s) security_tables
    && blank_unless s 32 (participant_set_up s) profile_tables
    && blank_unless s 32 (change_waits s) waiting_tables
    && blank_unless s 16 (basket_set_up s) basket_tables
    && blank_unless s 256 (is_used s) request_tables
    && blank_unless s 64 (is_in_use s) exposure_tables
    && all (λ k. eqb (s spares k) 0) (rows_of spares) 0

-- a return has no closing; the marks of a request row are 0 or 1; the partial mark is the pair's, and an unpaired row has none
abbrev pub marks_agree : State → Bool
marks_agree s =
    of_each 256 (is_return s) (λ i. eqb (s closings i) 0)
    && all (λ i. leb (s pair_partials i) 1 && leb (s cancels i) 1 && leb (s ends i) 1) 256 0
    && all (λ i. cond (is_paired s i) (eqb (s pair_partials i) (s pair_partials (partner_of s i))) (eqb (s pair_partials i) 0)) 256 0

-- the next request number is at most one above the last, 999,999,999; a change waits only where a profile is in force
abbrev pub sound_layout : State → Bool
sound_layout s = between 1 greatest_next (s next_number 0) && of_each 32 (change_waits s) (participant_set_up s) && unused_blank s && marks_agree s
