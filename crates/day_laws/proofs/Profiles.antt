-- The new day and the profiles that come into force: the day is open, and whoever is set up stays so.
-- Assumes nothing.
use mathlib.Core.Path.{◌≡◌}
use mathlib.Core.Bool.{Bool, true, false, not, ◌||◌, cond}
use mathlib.Core.List.{List, [], ◌∷◌, ◌++◌}
use mathlib.Core.Logic.{⊎_elim}
use Prim.Native.Nat.{ℕ, ◌+◌, ◌-◌, ◌≤◌, ◌<◌}
use native.Mathlib.Omega.{arith}
use lib.Dec.{eqb, ltb}
use borrow.Author.Tests.{ltb-true, ltb-false, not-true}
use Rattle.laws.specs.Search.{all}
use Rattle.laws.proofs.Cases.{either, clash, or_cases}
use Rattle.calendar.specs.Target.{open_day, next_open_day, last_day}
use Rattle.calendar.proofs.OpenDays.{open_within}
use Rattle.book.specs.Layout.{today, modes, lists, partials, waiting_modes, waiting_lists, waiting_partials, givers, takers, exposure_givers, exposure_takers, profile_tables, waiting_tables}
use Rattle.book.specs.State.{State, put}
use Rattle.book.specs.Fits.{Fits}
use Rattle.book.proofs.Images.{put_fits}
use Rattle.rules.specs.Codes.{next_day_rules}
use Rattle.rules.specs.DayChange.{change_takes_effect, profiles_changed, on_next_day}
use Rattle.rules.specs.Outcome.{lowest}
use Rattle.rules.specs.ByRow.{sound_profile, sound_participant, sound_row, sound_exposure}
use Rattle.rules.specs.Stock.{participant_set_up, holding}
use Rattle.facts.specs.Good.{Sound, Good}
use Rattle.facts.proofs.Rows.{head_facts, facts_head}
use Rattle.facts.proofs.Searches.{least_holds}
use Rattle.facts.proofs.Truth.{Each, split}
use Rattle.day_laws.proofs.Each.{each_keeps}
use Rattle.day_laws.proofs.Remade.{remade, among, stored_row, stored_fits, passed, turns_remade}

-- an accepted next day is open
module _ (s : State) (h : lowest (next_day_rules s) ≡ 0) where
  pub next_day_within : next_open_day (s today 0) ≤ last_day
  unfolding next_day_rules
  next_day_within =
      let day = next_open_day (s today 0) in
      ⊎_elim
      (λ (e : ltb last_day day ≡ true). absurd (let z : 7 ≡ 0 = rw e at h in omega arith))
      (λ (e : ltb last_day day ≡ false). omega (arith, ltb-false last_day day e))
      (either (ltb last_day day))

  pub next_day_open : Sound s → open_day (next_open_day (s today 0)) ≡ true
  unfolding next_open_day
  next_day_open f =
      let now = open_within (s today 0) (head_facts s f.head).open_today in
      least_holds open_day (last_day - s today 0) (s today 0 + 1) (omega (arith, next_day_within))

-- the book on another open day: nothing stored is compared with today
module _ (s : State) (g : Good s) (day : ℕ) (o : open_day day ≡ true) where
  pub new_day_good : Good (put s today 0 day)
  unfolding all holding
  new_day_good =
      let f = g.facts in
      let head = head_facts s f.head in
      record {
        facts = record {
          head = facts_head (put s today 0 day) (record {
            open_today = o;
            tolerance_low = head.tolerance_low;
            tolerance_high = head.tolerance_high;
            next_low = head.next_low;
            next_high = head.next_high;
          });
          security = f.security;
          participant = f.participant;
          basket = f.basket;
          spare = f.spare;
          row = f.row;
          number = f.number;
          exposure = f.exposure;
          key = f.key;
          position = f.position;
          held = f.held;
        };
        fits = put_fits s today 0 day g.fits (omega arith) (omega arith) (omega (arith, open_within day o));
      }

-- the tables of a participant, and a row of them once the profile that waits is in force
abbrev pub participant_tables : List ℕ
participant_tables = profile_tables ++ waiting_tables

abbrev in_force : (ℕ → ℕ) → ℕ → ℕ
in_force row f = cond (ltb f waiting_modes) (row (f + 3)) 0

-- a profile waits
abbrev pub waits : State → ℕ → Bool
waits s p = not (eqb (s waiting_modes p) 0)

-- the state with the profiles of some participants changed
abbrev pub changed : State → (ℕ → Bool) → State
changed s done = remade (among participant_tables) in_force done s

-- profiles changed: those that waited are in force
profiles_turned : (s : State) → profiles_changed s ≡ changed s (passed (waits s) 32)
unfolding profiles_changed
profiles_turned s = turns_remade (among participant_tables) in_force (waits s) change_takes_effect (stored_row in_force participant_tables) s 32

module _ (s : State) (h : Sound s) (done : ℕ → Bool) (only : (p : ℕ) → done p ≡ true → (p < 32) × (waits s p ≡ true)) where
  -- a participant's three clauses: the profile in force, the one that waits, and that it waits only where one is in force
  clauses : (p : ℕ) → p < 32 → Each (sound_profile (s modes p) (s lists p) (s partials p) ∷ sound_profile (s waiting_modes p) (s waiting_lists p) (s waiting_partials p) ∷ (participant_set_up s p || eqb (s waiting_modes p) 0) ∷ [])
  clauses p l = split (sound_profile (s modes p) (s lists p) (s partials p) ∷ sound_profile (s waiting_modes p) (s waiting_lists p) (s waiting_partials p) ∷ (participant_set_up s p || eqb (s waiting_modes p) 0) ∷ []) (h.participant p l)

  -- whoever has a profile waiting is set up
  waiting_known : (p : ℕ) → p < 32 → waits s p ≡ true → participant_set_up s p ≡ true
  waiting_known p l w =
      ⊎_elim (λ k. k) (λ k. clash k (not-true (eqb (s waiting_modes p) 0) w)) (or_cases (participant_set_up s p) (eqb (s waiting_modes p) 0) (clauses p l).1.1)

  -- the same participants are set up
  set_up_same : (p : ℕ) → participant_set_up (changed s done) p ≡ participant_set_up s p
  set_up_same p =
      ⊎_elim
      (λ (e : done p ≡ true). let o = only p e in rw (e, waiting_known p o.0 o.1, o.1))
      (λ (e : done p ≡ false). rw e)
      (either (done p))

  changed_participant : (p : ℕ) → p < 32 → sound_participant (changed s done) p ≡ true
  changed_participant p l =
      ⊎_elim
      (λ (e : done p ≡ true). rw (e, (clauses p l).1.0, (only p e).1))
      (λ (e : done p ≡ false). rw e (h.participant p l))
      (either (done p))

  -- so every party named is still set up
  changed_row : (i : ℕ) → i < 256 → sound_row (changed s done) i ≡ true
  unfolding all
  changed_row i l = rw (set_up_same (s givers i), set_up_same (s takers i)) (h.row i l)

  changed_exposure : (e : ℕ) → e < 64 → sound_exposure (changed s done) e ≡ true
  unfolding all
  changed_exposure e l = rw (set_up_same (s exposure_givers e), set_up_same (s exposure_takers e)) (h.exposure e l)

  pub changed_sound : Sound (changed s done)
  unfolding all holding
  changed_sound = record {
    head = h.head;
    security = h.security;
    participant = changed_participant;
    basket = h.basket;
    spare = h.spare;
    row = changed_row;
    number = h.number;
    exposure = changed_exposure;
    key = h.key;
    position = h.position;
    held = h.held;
  }

module _ (s : State) where
  -- the profiles changed: the book is good, no other table changes, and no participant's bonds move
  profiles_changed_fits : Fits s → Fits (profiles_changed s)
  unfolding profiles_changed
  profiles_changed_fits =
      each_keeps (waits s) change_takes_effect s Fits 32
      (λ t p l w fit.
      stored_fits participant_tables (in_force (λ f. t f p)) t p fit (omega (arith, fit.fits waiting_modes p (omega arith), fit.fits waiting_lists p (omega arith), fit.fits waiting_partials p (omega arith))))

  profiles_changed_good : Good s → Good (profiles_changed s)
  profiles_changed_good g =
      let done = passed (waits s) 32 in
      let only : (p : ℕ) → done p ≡ true → (p < 32) × (waits s p ≡ true) = λ p e. let t = split (ltb p 32 ∷ waits s p ∷ []) e in (ltb-true p 32 t.0, t.1) in
      record { facts = rw (profiles_turned s) (changed_sound s g.facts done only); fits = profiles_changed_fits g.fits }

-- the next open day
module _ (s : State) where
  pub next_day_good : Good s → open_day (next_open_day (s today 0)) ≡ true → Good (on_next_day s)
  unfolding on_next_day
  next_day_good g o = let day = next_open_day (s today 0) in profiles_changed_good (put s today 0 day) (new_day_good s g day o)

  pub next_day_beside : (f i : ℕ) → among participant_tables f ≡ false → on_next_day s f i ≡ put s today 0 (next_open_day (s today 0)) f i
  unfolding on_next_day
  next_day_beside f i m = rw (profiles_turned (put s today 0 (next_open_day (s today 0))), m)

  pub next_day_holding : (p i : ℕ) → holding (on_next_day s) p i ≡ holding s p i
  unfolding on_next_day holding
  next_day_holding p i = rw (profiles_turned (put s today 0 (next_open_day (s today 0))))
