-- Request rows in a day change: dropping a row leaves the tests of the others, and what a return names.
-- Assumes nothing.
use mathlib.Core.Path.{◌≡◌}
use mathlib.Core.Bool.{Bool}
use mathlib.Core.Logic.{⊎_elim}
use Prim.Native.Nat.{ℕ, ◌<◌}
use native.Mathlib.Omega.{arith}
use borrow.Author.Tests.{ne_eqb}
use Rattle.laws.proofs.Cases.{either}
use Rattle.book.specs.Layout.{request_kinds, baskets_or_exposures}
use Rattle.book.specs.State.{State}
use Rattle.rules.specs.DayChange.{row_dropped, on_each}
use Rattle.rules.specs.Requests.{is_used}
use Rattle.facts.specs.Good.{Sound}
use Rattle.facts.proofs.Rows.{Kind, fop, return, used_fields, unused_blank_lem}
use Rattle.day_laws.proofs.Each.{each_keeps}
use Rattle.day_rows.specs.Parts.{drops, ReturnNamed}
use Rattle.day_rows.specs.declared.Pass.{Pass}
use Rattle.day_rows.specs.declared.Pass.TheVariants.{Done, ClosedFops, ClosedReturns}

-- the tests of a row read its own tables, today and the exposures
pub rows_apart : (pass : Pass) (s : State) (j i : ℕ) → j < i → drops pass (row_dropped s j) i ≡ drops pass s i
rows_apart Done s j i l = rw (ne_eqb i j (λ e. omega arith))
rows_apart ClosedFops s j i l = rw (ne_eqb i j (λ e. omega arith))
rows_apart ClosedReturns s j i l = rw (ne_eqb i j (λ e. omega arith))

-- while the rows below i are dropped, a return at i names its exposure
pub later_named : (test : ℕ → Bool) (s : State) (i : ℕ) → ReturnNamed s i → ReturnNamed (on_each test row_dropped i s) i
later_named test s i r = each_keeps test row_dropped s (λ t. ReturnNamed t i) i (λ t j l p h. record { named = rw (ne_eqb i j (λ e. omega arith)) h.named }) r

-- a return of a sound book names an exposure row
module _ (s : State) (f : Sound s) (i : ℕ) (l : i < 256) where
  kind_named : Kind s i → s request_kinds i ≡ 7 → s baskets_or_exposures i < 64
  kind_named (fop e x) k = absurd (omega arith)
  kind_named (return e x) k = x.exposure_below

  pub sound_named : ReturnNamed s i
  sound_named = record {
    named = λ k. ⊎_elim
        (λ u. kind_named (used_fields s i (f.row i l) u).kind k)
        (λ u. absurd (omega (arith, unused_blank_lem s i (f.row i l) u request_kinds (omega arith) (omega arith))))
        (either (is_used s i));
  }
