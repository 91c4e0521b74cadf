-- The next day (kind 12) as a whole: a good book, each participant's bonds and the exposures' amounts.
-- Assumes nothing.
use mathlib.Core.Path.{◌≡◌, refl, ◌∙◌}
use mathlib.Core.Bool.{Bool, true, false, cond}
use Prim.Native.Nat.{ℕ, ◌+◌, ◌<◌}
use native.Mathlib.Decide.{dec_lt}
use native.Mathlib.Omega.{arith}
use Rattle.calendar.specs.Target.{next_open_day}
use Rattle.book.specs.Layout.{today, exposure_amounts}
use Rattle.book.specs.State.{State}
use Rattle.rules.specs.Codes.{next_day_rules}
use Rattle.rules.specs.DayChange.{rows_dropped, is_done, on_next_day, is_closed_fop, is_exposure_closed, exposures_closed, is_closed_return, closing_events, next_day}
use Rattle.rules.specs.Outcome.{lowest}
use Rattle.rules.specs.Stock.{holding}
use Rattle.facts.proofs.Keeps.{Amounts, Keeps}
use Rattle.facts.specs.Good.{Good}
use Rattle.facts.proofs.Sums.{Sums, all_noted}
use Rattle.day_laws.proofs.Closed.{Closing, exposures_closed_lem, exposures_closed_amount}
use Rattle.day_laws.proofs.Freed.{exposures_freed_good, exposures_freed_holding, exposures_freed_amount}
use Rattle.day_laws.proofs.Paper.{told_others, told_ahead, told_passed}
use Rattle.day_laws.proofs.Profiles.{next_day_open, next_day_good, next_day_beside, next_day_holding}
use Rattle.day_laws.proofs.Rows.{done_together, fop_together, return_together, rows_dropped_good, rows_dropped_beside, rows_dropped_holding}

-- the state after each pass but the last
module _ (s : State) where
  abbrev pub done_dropped : State
  done_dropped = rows_dropped is_done s

  abbrev pub day_begun : State
  day_begun = on_next_day done_dropped

  abbrev pub fops_dropped : State
  fops_dropped = rows_dropped is_closed_fop day_begun

  abbrev pub closings_done : State
  closings_done = exposures_closed fops_dropped

  abbrev pub returns_dropped : State
  returns_dropped = rows_dropped is_closed_return closings_done

  -- the day is the one after the day of the call
  pub day_of_call : done_dropped today 0 ≡ s today 0
  day_of_call = rows_dropped_beside is_done s today 0 refl

  pub day_begun_lem : day_begun today 0 ≡ next_open_day (s today 0)
  day_begun_lem = next_day_beside done_dropped today 0 refl ∙ rw day_of_call

module _ (s : State) (g : Good s) (h : lowest (next_day_rules s) ≡ 0) where
  -- each pass leaves a good book
  pub done_dropped_good : Good (done_dropped s)
  done_dropped_good = rows_dropped_good is_done s g (done_together s g.facts)

  pub day_begun_good : Good (day_begun s)
  day_begun_good = next_day_good (done_dropped s) done_dropped_good (rw (day_of_call s) (next_day_open s h g.facts))

  pub fops_dropped_good : Good (fops_dropped s)
  fops_dropped_good = rows_dropped_good is_closed_fop (day_begun s) day_begun_good (fop_together (day_begun s) day_begun_good.facts)

  closing_kept : Closing (fops_dropped s) (closings_done s)
  closing_kept = exposures_closed_lem (fops_dropped s) fops_dropped_good

  pub closings_done_good : Good (closings_done s)
  closings_done_good = closing_kept.good

  pub returns_dropped_good : Good (returns_dropped s)
  returns_dropped_good = rows_dropped_good is_closed_return (closings_done s) closings_done_good (return_together (closings_done s) closings_done_good.facts)

  next_day_kept : Good (next_day s).state
  unfolding next_day
  next_day_kept = exposures_freed_good (returns_dropped s) returns_dropped_good

  -- no pass moves a participant's bonds
  next_day_bonds : (p i : ℕ) → p < 32 → i < 64 → holding (next_day s).state p i ≡ holding s p i
  unfolding next_day
  next_day_bonds p i m l =
      exposures_freed_holding (returns_dropped s) returns_dropped_good p i l
      ∙ rows_dropped_holding is_closed_return (closings_done s) p i
      ∙ closing_kept.held p i m l
      ∙ rows_dropped_holding is_closed_fop (day_begun s) p i
      ∙ next_day_holding (done_dropped s) p i
      ∙ rows_dropped_holding is_done s p i

  -- until exposures are closed, their amounts are as they were
  amount_before : (e : ℕ) → fops_dropped s exposure_amounts e ≡ s exposure_amounts e
  amount_before e =
      rows_dropped_beside is_closed_fop (day_begun s) exposure_amounts e refl
      ∙ next_day_beside (done_dropped s) exposure_amounts e refl
      ∙ rows_dropped_beside is_done s exposure_amounts e refl

  -- then an exposure has its amount unless it was closed
  amount_after : (e : ℕ) → e < 64 → (next_day s).state exposure_amounts e ≡ cond (is_exposure_closed (fops_dropped s) e) 0 (fops_dropped s exposure_amounts e)
  unfolding next_day
  amount_after e l =
      exposures_freed_amount (returns_dropped s) e
      ∙ rows_dropped_beside is_closed_return (closings_done s) exposure_amounts e refl
      ∙ exposures_closed_amount (fops_dropped s) e l

  -- what an exposure has left and what was closed of it
  parts : (b : Bool) (x : ℕ) → cond b x 0 + cond b 0 x ≡ x
  parts true x = omega arith
  parts false x = omega arith

  -- "S − R − C": what was closed has left the amount
  next_day_amounts : (p : Sums) → Amounts s p → Amounts (next_day s).state (all_noted p (closing_events (fops_dropped s) 64))
  next_day_amounts p a e =
      let t = fops_dropped s in
      let others = told_others t p 64 e in
      elim (dec_lt e 64) [
        | yes l ↦ omega (arith, others, told_passed t p e 64 l, amount_after e l, amount_before e, parts (is_exposure_closed t e) (t exposure_amounts e), a e)
        | no l ↦ omega (arith, others, told_ahead t p e 64 (omega arith), next_day_kept.fits.blank exposure_amounts e (omega arith), g.fits.blank exposure_amounts e (omega arith), a e)
      ]

-- an accepted next day
pub keeps_next_day : (s : State) → Good s → lowest (next_day_rules s) ≡ 0 → Keeps s (next_day s)
unfolding next_day
keeps_next_day s g h = record { good = next_day_kept s g h; bonds = next_day_bonds s g h; amounts = next_day_amounts s g h }
