-- The three passes together are the mark, and what they counted is its answer.
-- Assumes nothing.
use mathlib.Core.Path.{◌≡◌, sym, ap, ◌∙◌}
use mathlib.Core.Bool.{Bool, ◌||◌}
use mathlib.Core.List.{List}
use Prim.Native.Nat.{ℕ}
use Rattle.laws.specs.Search.{count}
use Rattle.laws.specs.Sum.{sum}
use Rattle.marking.proofs.Counts.{count_same}
use Rattle.book.specs.State.{State}
use Rattle.rules.specs.Marking.{on_exposures, moved, ineligible_back, excess_back, shortfall_in, given_back, searched, missing_of, marked}
use Rattle.totals.specs.Totals.{totals_of}
use Rattle.totals.specs.declared.Totals.{Totals}
use Rattle.marking_laws.proofs.Marking.{own_ineligible, own_excess, ineligible_less, excess_less}
use Rattle.marking_laws.proofs.Moved.{moved_both}
use Rattle.marking_laws.proofs.Passes.{pass_lower}
use Rattle.marking.specs.Flags.{FlagsOf, flagged_or}

module _ (s : State) {s1 : State} {gave : List Bool} (p1 : s1 ≡ on_exposures ineligible_back 64 s) (k : FlagsOf (moved s s1) gave) where
  module _ {s2 : State} (p2 : s2 ≡ on_exposures excess_back 64 s1) where
    given_back_lem : s2 ≡ given_back s
    unfolding given_back
    given_back_lem = rw p1 at p2

    -- "A: exposures that gave back"
    gave_back : {a : ℕ} → a ≡ count (flagged_or gave (moved s1 s2)) 64 0 → a ≡ count (moved s (given_back s)) 64 0
    gave_back q =
        q
        ∙ count_same (flagged_or gave (moved s1 s2)) (moved s s2) 64 0
        (λ e g l.
        ap (λ (b : Bool). b || moved s1 s2 e) (k.each e l)
        ∙ sym (moved_both s s1 s2 e (rw p1 (pass_lower ineligible_back own_ineligible s ineligible_less 64 e l)) (rw p2 (pass_lower excess_back own_excess s1 excess_less 64 e l))))
        ∙ rw given_back_lem

    module _ {s3 : State} (p3 : s3 ≡ on_exposures shortfall_in 64 s2) where
      all_searched : s3 ≡ searched s
      unfolding searched
      all_searched = rw given_back_lem at p3

      -- "B: exposures that took in"
      took : {b : ℕ} → b ≡ count (moved s2 s3) 64 0 → b ≡ count (moved (given_back s) (searched s)) 64 0
      took q = q ∙ rw (given_back_lem, all_searched)

      pub mark_whole : {a b m : ℕ} → a ≡ count (flagged_or gave (moved s1 s2)) 64 0 → b ≡ count (moved s2 s3) 64 0 → m ≡ sum (missing_of s3) 64
          → (◌≡◌ {A = Totals} (record { a = a; b = b; m = m }) (totals_of (marked s))) × (s3 ≡ (marked s).state)
      unfolding marked
      mark_whole qa qb qm =
          let qs : sum (missing_of s3) 64 ≡ sum (missing_of (searched s)) 64 = rw all_searched in
          (rw (gave_back qa, took qb, qm ∙ qs), all_searched)
