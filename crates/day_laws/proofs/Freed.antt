-- Exposures freed: an idle one, of amount 0 and with no row that belongs to it, leaves every row its exposure.
-- Assumes nothing.
use mathlib.Core.Path.{◌≡◌, refl, sym}
use mathlib.Core.Bool.{Bool, true, false, not, ◌&&◌, cond}
use mathlib.Core.List.{[], ◌∷◌}
use mathlib.Core.Logic.{⊎_elim}
use Prim.Native.Nat.{ℕ, ◌+◌, ◌*◌, ◌<◌}
use native.Mathlib.Omega.{arith}
use lib.Dec.{eqb, ltb}
use borrow.Author.Tests.{eqb-true, eq-eqb, not-true}
use Rattle.laws.specs.Search.{all}
use Rattle.laws.proofs.Cases.{either, clash, or_right}
use Rattle.laws.proofs.Sum.{sum_same}
use Rattle.book.specs.Layout.{request_kinds, givers, takers, baskets_or_exposures, closings, in_use, exposure_givers, exposure_amounts, positions, exposure_tables}
use Rattle.book.specs.State.{State}
use Rattle.rules.specs.DayChange.{belongs, is_idle, exposure_freed, exposures_freed}
use Rattle.rules.specs.Requests.{is_used, is_fop, is_return, is_paired, has_key, exposure_of_fop}
use Rattle.rules.specs.Stock.{position_from, holding}
use Rattle.rules.specs.ByRow.{sound_kind, sound_paired, sound_row, sound_exposure, other_key, distinct_key, sound_position}
use Rattle.facts.specs.Good.{Sound, Good}
use Rattle.facts.proofs.Rows.{Kind, fop, return, used_fields, no_exposure_sound, position_facts}
use Rattle.facts.proofs.Searches.{least_same}
use Rattle.facts.proofs.Truth.{Each, split, all_of, below}
use Rattle.day_laws.proofs.Remade.{remade, cleared_fits, among, stored_row, passed, turns_remade}

-- a choice between one number and itself
one_choice : (x : ℕ) (b : Bool) → cond b x x ≡ x
one_choice x true = refl
one_choice x false = refl

-- the state with some exposures freed
abbrev pub freed : State → (ℕ → Bool) → State
freed s done = remade (among exposure_tables) (λ row f. 0) done s

-- exposures freed: the idle ones are free
exposures_turned : (s : State) → exposures_freed s ≡ freed s (passed (is_idle s) 64)
unfolding exposures_freed
exposures_turned s = turns_remade (among exposure_tables) (λ row f. 0) (is_idle s) exposure_freed (stored_row (λ row f. 0) exposure_tables) s 64

-- what idle says
module _ (s : State) (e : ℕ) (idle : is_idle s e ≡ true) where
  clauses : Each (eqb (s in_use e) 1 ∷ eqb (s exposure_amounts e) 0 ∷ all (λ i. not (belongs s e i)) 256 0 ∷ [])
  clauses = split (eqb (s in_use e) 1 ∷ eqb (s exposure_amounts e) 0 ∷ all (λ i. not (belongs s e i)) 256 0 ∷ []) idle

  pub idle_used : s in_use e ≡ 1
  idle_used = eqb-true (s in_use e) 1 clauses.0

  pub idle_amount : s exposure_amounts e ≡ 0
  idle_amount = eqb-true (s exposure_amounts e) 0 clauses.1.0

  pub idle_row : (i : ℕ) → i < 256 → belongs s e i ≡ false
  idle_row i l = not-true (belongs s e i) (below (λ i. not (belongs s e i)) 256 clauses.1.1 i l)

  -- "an exposure of amount 0 has no position"
  pub idle_position : Sound s → e < 64 → (i : ℕ) → i < 64 → s positions (64 * e + i) ≡ 0
  idle_position f l i m = ⊎_elim (λ z. z) (λ k. absurd (k.amount idle_amount)) (position_facts s e i (f.position e i l m))

module _ (s : State) (h : Sound s) (done : ℕ → Bool) (only : (e : ℕ) → done e ≡ true → is_idle s e ≡ true) where
  -- a return's exposure is not freed
  return_kept : (i : ℕ) → i < 256 → is_used s i ≡ true → is_return s i ≡ true → done (s baskets_or_exposures i) ≡ false
  return_kept i l u r =
      let o = s baskets_or_exposures i in
      let own : belongs s o i ≡ true = rw (u, r, eq-eqb o o refl) in
      ⊎_elim (λ (e : done o ≡ true). clash own (idle_row s o (only o e) i l)) (λ e. e) (either (done o))

  -- a paired FOP finds the same exposures by its key
  key_kept : (i e : ℕ) → i < 256 → is_used s i ≡ true → is_fop s i ≡ true → is_paired s i ≡ true
      → has_key (freed s done) (s givers i) (s takers i) (s baskets_or_exposures i) (s closings i) e ≡ has_key s (s givers i) (s takers i) (s baskets_or_exposures i) (s closings i) e
  key_kept i e l u f p =
      ⊎_elim
      (λ (d : done e ≡ true). rw d (sym (or_right (is_return s i && eqb (s baskets_or_exposures i) e) (has_key s (s givers i) (s takers i) (s baskets_or_exposures i) (s closings i) e) (rw (u, f, p) at (idle_row s e (only e d) i l)))))
      (λ (d : done e ≡ false). rw d)
      (either (done e))

  -- so each row's clauses hold as before
  kind_kept : (i : ℕ) → i < 256 → is_used s i ≡ true → sound_kind (freed s done) i ≡ sound_kind s i
  kind_kept i l u =
      ⊎_elim
      (λ (r : is_return s i ≡ true). rw (return_kept i l u r))
      (λ (r : is_return s i ≡ false). rw r)
      (either (is_return s i))

  -- by its kind a used row is a FOP or a return
  fop_or_return : (i : ℕ) → i < 256 → is_used s i ≡ true → is_return s i ≡ false → is_fop s i ≡ true
  fop_or_return i l u r = go (used_fields s i (h.row i l) u).kind
    where
      go : Kind s i → is_fop s i ≡ true
      go (fop k f) = eq-eqb (s request_kinds i) 6 k
      go (return k f) = clash (eq-eqb (s request_kinds i) 7 k) r

  paired_kept : (i : ℕ) → i < 256 → is_used s i ≡ true → is_paired s i ≡ true → sound_paired (freed s done) i ≡ sound_paired s i
  unfolding all
  paired_kept i l u p =
      ⊎_elim
      (λ (r : is_return s i ≡ true). rw r)
      (λ (r : is_return s i ≡ false).
      let f = fop_or_return i l u r in
      let same : exposure_of_fop (freed s done) i ≡ exposure_of_fop s i =
      least_same (has_key (freed s done) (s givers i) (s takers i) (s baskets_or_exposures i) (s closings i)) (has_key s (s givers i) (s takers i) (s baskets_or_exposures i) (s closings i)) 64 0 (λ e a b. key_kept i e l u f p) in
      rw same)
      (either (is_return s i))

  freed_row : (i : ℕ) → i < 256 → sound_row (freed s done) i ≡ true
  unfolding all
  freed_row i l =
      ⊎_elim
      (λ (u : is_used s i ≡ true).
      ⊎_elim
      (λ (p : is_paired s i ≡ true). rw (u, kind_kept i l u, p, paired_kept i l u p) (rw (u, p) at (h.row i l)))
      (λ (p : is_paired s i ≡ false). rw (u, kind_kept i l u, p) (rw (u, p) at (h.row i l)))
      (either (is_paired s i)))
      (λ (u : is_used s i ≡ false). rw u (rw u at (h.row i l)))
      (either (is_used s i))

  freed_exposure : (e : ℕ) → e < 64 → sound_exposure (freed s done) e ≡ true
  unfolding all
  freed_exposure e l =
      ⊎_elim
      (λ (d : done e ≡ true).
      no_exposure_sound (freed s done) e (rw d) (record { giver = rw d; taker = rw d; basket = rw d; closing = rw d; amount = rw d }))
      (λ (d : done e ≡ false). rw d (h.exposure e l))
      (either (done e))

  -- keys stay distinct among the exposures left
  key_other : (e c : ℕ) → done e ≡ false → other_key s e c ≡ true → other_key (freed s done) e c ≡ true
  unfolding all
  key_other e c d k = ⊎_elim (λ (a : done c ≡ true). rw a) (λ (a : done c ≡ false). rw (d, a) k) (either (done c))

  freed_key : (e : ℕ) → e < 64 → distinct_key (freed s done) e ≡ true
  freed_key e l =
      ⊎_elim
      (λ (d : done e ≡ true). rw d)
      (λ (d : done e ≡ false).
      ⊎_elim
      (λ (z : eqb (s in_use e) 0 ≡ true). rw (d, z))
      (λ (z : eqb (s in_use e) 0 ≡ false).
      rw (d, z) (all_of (other_key (freed s done) e) e 0 (λ c g m. key_other e c d (below (other_key s e) e (rw z at (h.key e l)) c (omega arith)))))
      (either (eqb (s in_use e) 0)))
      (either (done e))

  freed_position : (e i : ℕ) → e < 64 → i < 64 → sound_position (freed s done) e i ≡ true
  freed_position e i l m =
      ⊎_elim
      (λ (d : done e ≡ true). rw (idle_position s e (only e d) h l i m))
      (λ (d : done e ≡ false). rw d (h.position e i l m))
      (either (done e))

  -- no bonds stood in what is freed
  freed_from : (p i e : ℕ) → e < 64 → i < 64 → position_from (freed s done) p i e ≡ position_from s p i e
  freed_from p i e l m =
      ⊎_elim
      (λ (d : done e ≡ true). rw (d, idle_position s e (only e d) h l i m) (sym (one_choice 0 (eqb (s in_use e) 1 && eqb (s exposure_givers e) p))))
      (λ (d : done e ≡ false). rw d)
      (either (done e))

  pub freed_holding : (p i : ℕ) → i < 64 → holding (freed s done) p i ≡ holding s p i
  unfolding holding
  freed_holding p i l = omega (arith, sum_same (position_from (freed s done) p i) (position_from s p i) 64 (λ e m. freed_from p i e m l))

  pub freed_sound : Sound (freed s done)
  unfolding all
  freed_sound = record {
    head = h.head;
    security = h.security;
    participant = h.participant;
    basket = h.basket;
    spare = h.spare;
    row = freed_row;
    number = h.number;
    exposure = freed_exposure;
    key = freed_key;
    position = freed_position;
    held = λ p i m l. rw (freed_holding p i l) (h.held p i m l);
  }

-- all of them: a good book, no participant's bonds moved, each amount as it was
module _ (s : State) where
  abbrev done : ℕ → Bool
  done = passed (is_idle s) 64

  done_idle : (e : ℕ) → done e ≡ true → is_idle s e ≡ true
  done_idle e h = (split (ltb e 64 ∷ is_idle s e ∷ []) h).1

  pub exposures_freed_good : Good s → Good (exposures_freed s)
  exposures_freed_good g = rw (exposures_turned s) (record { facts = freed_sound s g.facts done done_idle; fits = cleared_fits (among exposure_tables) done s g.fits })

  pub exposures_freed_holding : Good s → (p i : ℕ) → i < 64 → holding (exposures_freed s) p i ≡ holding s p i
  exposures_freed_holding g p i l = rw (exposures_turned s) (freed_holding s g.facts done done_idle p i l)

  pub exposures_freed_amount : (e : ℕ) → exposures_freed s exposure_amounts e ≡ s exposure_amounts e
  exposures_freed_amount e =
      rw (exposures_turned s)
      (⊎_elim (λ (d : done e ≡ true). rw d (sym (idle_amount s e (done_idle e d)))) (λ (d : done e ≡ false). rw d) (either (done e)))
