-- The passes of a day change, one after the other, are the next day.
-- Assumes nothing.
use mathlib.Core.Path.{◌≡◌}
use mathlib.Core.Bool.{Bool, true}
use mathlib.Core.List.{List}
use Prim.Native.Nat.{ℕ, ◌+◌, ◌≤◌, ◌<◌}
use lib.ListN.{length, get_or}
use Rattle.laws.specs.Search.{count}
use Rattle.laws.specs.Sum.{sum}
use Rattle.laws.proofs.Least.{count_le}
use Rattle.calendar.specs.Target.{next_open_day}
use Rattle.book.specs.Layout.{book_length, today}
use Rattle.book.specs.State.{State, state}
use Rattle.book.proofs.Images.{state_fits}
use Rattle.rules.specs.Codes.{next_day_rules}
use Rattle.rules.specs.DayChange.{rows_dropped, is_done, on_next_day, is_closed_fop, exposures_closed, is_closed_return, exposures_freed, next_day}
use Rattle.rules.specs.Outcome.{lowest}
use Rattle.rules.specs.Sound.{sound}
use Rattle.facts.proofs.Written.{sound_facts, facts_sound}
use Rattle.facts.specs.Good.{Good}
use Rattle.totals.specs.Totals.{totals_of}
use Rattle.totals.specs.declared.Totals.{Totals}
use Rattle.day_laws.proofs.NextDay.{done_dropped, day_begun, fops_dropped, closings_done, day_of_call, day_begun_lem, done_dropped_good, day_begun_good, fops_dropped_good, closings_done_good}
use Rattle.day_exposures.specs.Parts.{amount_closed}

-- what the passes count on, each on the state that the one before it leaves
module _ (b : List ℕ) (long : length b ≡ book_length) (small : (i : ℕ) → get_or b i 0 < 256) (h : sound (state b) ≡ true) (accepted : lowest (next_day_rules (state b)) ≡ 0) where
  abbrev s : State
  s = state b

  good : Good s
  good = record { facts = sound_facts s h; fits = state_fits b long small }

  pub may_begin : {t₁ : State} → t₁ ≡ rows_dropped is_done s → (sound t₁ ≡ true) × (lowest (next_day_rules t₁) ≡ 0)
  unfolding next_day_rules
  may_begin done = rw done (facts_sound (done_dropped s) (done_dropped_good s good accepted).facts, rw (day_of_call s) accepted)

  pub begun_sound : {t₁ t₂ : State} → t₁ ≡ rows_dropped is_done s → t₂ ≡ on_next_day t₁ → sound t₂ ≡ true
  begun_sound done begun = rw (begun, done) (facts_sound (day_begun s) (day_begun_good s good accepted).facts)

  pub fops_sound : {t₁ t₂ t₃ : State} → t₁ ≡ rows_dropped is_done s → t₂ ≡ on_next_day t₁ → t₃ ≡ rows_dropped is_closed_fop t₂ → sound t₃ ≡ true
  fops_sound done begun fops = rw (fops, begun, done) (facts_sound (fops_dropped s) (fops_dropped_good s good accepted).facts)

  pub closed_sound : {t₁ t₂ t₃ t₄ : State} → t₁ ≡ rows_dropped is_done s → t₂ ≡ on_next_day t₁ → t₃ ≡ rows_dropped is_closed_fop t₂ → t₄ ≡ exposures_closed t₃ → sound t₄ ≡ true
  closed_sound done begun fops closed = rw (closed, fops, begun, done) (facts_sound (closings_done s) (closings_done_good s good accepted).facts)

-- no pass drops more than all rows
pub dropped_le : (t : ℕ → Bool) {d : ℕ} → d ≡ count t 256 0 → d ≤ 256
dropped_le t q = rw q (count_le t 256 0)

-- what they leave
module _ (s : State) {d day f m r : ℕ} {t₁ t₂ t₃ t₄ t₅ t₆ : State}
    (done : (d ≡ count (is_done s) 256 0) × (t₁ ≡ rows_dropped is_done s))
    (begun : (day ≡ next_open_day (t₁ today 0)) × (t₂ ≡ on_next_day t₁))
    (fops : (f ≡ count (is_closed_fop t₂) 256 0) × (t₃ ≡ rows_dropped is_closed_fop t₂))
    (closed : (m ≡ sum (amount_closed t₃) 64) × (t₄ ≡ exposures_closed t₃))
    (returns : (r ≡ count (is_closed_return t₄) 256 0) × (t₅ ≡ rows_dropped is_closed_return t₄))
    (freed : t₆ ≡ exposures_freed t₅) where
  pub passes : (◌≡◌ {A = Totals} (record { a = day; b = d + f + r; m = m }) (totals_of (next_day s))) × (t₆ ≡ (next_day s).state)
  unfolding next_day
  passes = (
    rw (done.0, begun.0, fops.0, closed.0, returns.0, closed.1, fops.1, begun.1, done.1, day_begun_lem s, day_of_call s),
    rw (freed, returns.1, closed.1, fops.1, begun.1, done.1),
  )
