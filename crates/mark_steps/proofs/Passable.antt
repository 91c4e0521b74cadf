-- The three steps: each keeps a sound book with the same securities, and touches its own exposure's position alone.
-- Assumes nothing.
use mathlib.Core.Path.{◌≡◌, sym, ◌∙◌}
use mathlib.Core.List.{List}
use Prim.Native.Nat.{ℕ, ◌<◌}
use lib.ListN.{length, get_or}
use native.Mathlib.Omega.{arith}
use mathlib.Core.Bool.{Bool}
use Rattle.book.specs.Layout.{book_length, in_use, today, greatest_ages}
use Rattle.eligibility.specs.Fresh.{SamePrices}
use Rattle.marking_laws.proofs.Moved.{Bonds}
use Rattle.book.specs.State.{State, state}
use Rattle.bonds.specs.Moves.{SoundBook}
use Rattle.bonds.proofs.Rows.{good_of}
use Rattle.facts.proofs.Written.{facts_sound}
use Rattle.facts.specs.Good.{Good}
use Rattle.rules.specs.Marking.{moved, ineligible_back, excess_back, shortfall_in}
use Rattle.marking_laws.specs.Pass.{on_used}
use Rattle.marking_laws.proofs.Marking.{Kept, kept_ineligible, kept_excess, kept_shortfall, own_ineligible, own_excess, own_shortfall}
use Rattle.marking_laws.proofs.Passes.{Local, used_cases, own_used}
use Rattle.marking_laws.proofs.Recalls.{columns_kept}
use Rattle.mark_steps.specs.Stepped.{Stepped}

-- moves of bonds change no price
pub prices_kept : {s t : State} → Bonds s t → SamePrices s t
prices_kept b = record {
  columns = columns_kept b;
  day = b.others today 0 (λ q. omega arith) (λ q. omega arith);
  ages_kept = λ j. b.others greatest_ages j (λ q. omega arith) (λ q. omega arith);
}

pub record Passable (step : State → ℕ → State) : Type 0 where
  pub local : Local step
  pub keep : (t : State) (e : ℕ) → Good t → e < 64 → t in_use e ≡ 1 → Kept t (step t e)

pub first_pass : Passable ineligible_back
first_pass = record { local = own_ineligible; keep = kept_ineligible }

pub second_pass : Passable excess_back
second_pass = record { local = own_excess; keep = kept_excess }

pub third_pass : Passable shortfall_in
third_pass = record { local = own_shortfall; keep = kept_shortfall }

-- what such a step leaves
pub stepped_on : {step : State → ℕ → State} {columns book after : List ℕ} {e : ℕ} {has_moved : Bool} → Passable step → SoundBook book columns → ((i : ℕ) → get_or book i 0 < 256) → e < 64
    → length after ≡ book_length → state after ≡ on_used step (state book) e → has_moved ≡ moved (state book) (state after) e → Stepped step columns book after e has_moved
stepped_on {step} {columns} {book} {after} {e} p m small below l q k =
    let g : Good (state after) = rw q (used_cases step Good (state book) e (λ u. (p.keep (state book) e (good_of m small) below u).good) (good_of m small)) in
    let same = prices_kept (own_used step p.local (state book) e).bonds in
    record {
      book = record { long = l; sound_book = facts_sound (state after) g.facts; securities = rw q (m.securities ∙ sym same.columns) };
      kept = rw q same;
      stepped = q;
      told = k;
    }
