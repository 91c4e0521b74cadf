-- Rows dropped: a row that is dropped holds nothing, and the others are as they were. Pairs are dropped together, so what is left is sound.
-- Assumes nothing.
use mathlib.Core.Path.{◌≡◌, ◌∙◌}
use mathlib.Core.Bool.{Bool, true, false}
use mathlib.Core.Logic.{⊎_elim}
use Prim.Native.Nat.{ℕ, ◌<◌}
use native.Mathlib.Omega.{arith}
use lib.Dec.{eqb}
use borrow.Author.Tests.{eqb-false, ne_eqb, lt-ltb, not-true}
use Rattle.laws.specs.Search.{all}
use Rattle.laws.proofs.Cases.{either}
use Rattle.book.specs.Layout.{numbers, partners, request_tables}
use Rattle.book.specs.State.{State}
use Rattle.rules.specs.DayChange.{row_dropped, rows_dropped, is_done, is_closed_fop, is_closed_return}
use Rattle.rules.specs.Requests.{is_used, is_paired, partner_of}
use Rattle.rules.specs.Stock.{holding}
use Rattle.rules.specs.ByRow.{sound_row, differs, distinct_number}
use Rattle.facts.proofs.Truth.{all_of, below}
use Rattle.facts.specs.Good.{Sound, Good}
use Rattle.facts.proofs.Rows.{Pair, unused_blank_lem, used_paired}
use Rattle.day_laws.proofs.Remade.{remade, cleared_fits, among, stored_row, passed, turns_remade}

-- the state without the rows that are done
abbrev pub without : State → (ℕ → Bool) → State
without s done = remade (among request_tables) (λ row f. 0) done s

-- rows dropped: those that pass the test are gone
rows_turned : (test : State → ℕ → Bool) (s : State) → rows_dropped test s ≡ without s (passed (test s) 256)
unfolding rows_dropped
rows_turned test s = turns_remade (among request_tables) (λ row f. 0) (test s) row_dropped (stored_row (λ row f. 0) request_tables) s 256

-- a row that is paired is used, and so is its partner
module _ (s : State) (h : Sound s) (i : ℕ) (l : i < 256) where
  pub paired_used : is_paired s i ≡ true → is_used s i ≡ true
  paired_used p =
      ⊎_elim
      (λ (e : is_used s i ≡ true). e)
      (λ (e : is_used s i ≡ false). absurd (eqb-false (s partners i) 0 (not-true (eqb (s partners i) 0) p) (unused_blank_lem s i (h.row i l) e partners (omega arith) (omega arith))))
      (either (is_used s i))

  pub pair_of : is_paired s i ≡ true → Pair s i (partner_of s i)
  pair_of p = (used_paired s i (h.row i l) (paired_used p) p).pair

pub partner_paired : (s : State) (h : Sound s) (i : ℕ) → i < 256 → is_paired s i ≡ true → is_paired s (partner_of s i) ≡ true
partner_paired s h i l p = rw (ne_eqb (s partners (partner_of s i)) 0 (λ z. omega (arith, (pair_of s h i l p).named)))

-- a test tells the same of both rows of a pair
abbrev pub Together : State → (ℕ → Bool) → Type 0
Together s test = (i : ℕ) → i < 256 → is_paired s i ≡ true → test (partner_of s i) ≡ test i

-- so do the tests of the three passes
module _ (s : State) (h : Sound s) where
  pub done_together : Together s (is_done s)
  done_together i l p =
      let q = pair_of s h i l p in
      let m = partner_paired s h i l p in
      rw (paired_used s h i l p, paired_used s h (partner_of s i) q.partner_below m, m, p, q.amount, q.settled, q.end)

  pub fop_together : Together s (is_closed_fop s)
  fop_together i l p =
      let q = pair_of s h i l p in
      let m = partner_paired s h i l p in
      rw (paired_used s h i l p, paired_used s h (partner_of s i) q.partner_below m, m, p, q.kind, q.closing)

  pub return_together : Together s (is_closed_return s)
  return_together i l p =
      let q = pair_of s h i l p in
      rw (paired_used s h i l p, paired_used s h (partner_of s i) q.partner_below (partner_paired s h i l p), q.kind, q.object)

module _ (s : State) (h : Sound s) (done : ℕ → Bool) where
  -- a row that is gone
  gone_row : (i : ℕ) → done i ≡ true → sound_row (without s done) i ≡ true
  unfolding all
  gone_row i e = rw e

  -- a row that is left, its partner with it
  left_paired : (i : ℕ) → i < 256 → done i ≡ false → done (partner_of s i) ≡ false → sound_row (without s done) i ≡ true
  unfolding all
  left_paired i l e p = rw (e, p) (h.row i l)

  left_unpaired : (i : ℕ) → i < 256 → done i ≡ false → is_paired s i ≡ false → sound_row (without s done) i ≡ true
  unfolding all
  left_unpaired i l e p = rw (e, p) (rw p at (h.row i l))

  left_row : (i : ℕ) → i < 256 → (is_paired s i ≡ true → done (partner_of s i) ≡ done i) → sound_row (without s done) i ≡ true
  left_row i l pair =
      ⊎_elim
      (λ (e : done i ≡ true). gone_row i e)
      (λ (e : done i ≡ false). ⊎_elim (λ (p : is_paired s i ≡ true). left_paired i l e (pair p ∙ e)) (λ (p : is_paired s i ≡ false). left_unpaired i l e p) (either (is_paired s i)))
      (either (done i))

  -- numbers stay distinct: a row that is gone has none
  left_number : (i : ℕ) → i < 256 → distinct_number (without s done) i ≡ true
  left_number i l =
      ⊎_elim
      (λ (e : done i ≡ true). rw e)
      (λ (e : done i ≡ false).
      ⊎_elim
      (λ (z : eqb (s numbers i) 0 ≡ true). rw (e, z))
      (λ (z : eqb (s numbers i) 0 ≡ false).
      rw (e, z) (all_of (differs (without s done) i) i 0 (λ j g m. other j e z (below (differs s i) i (rw z at (h.number i l)) j (omega arith)))))
      (either (eqb (s numbers i) 0)))
      (either (done i))
    where
      other : (j : ℕ) → done i ≡ false → eqb (s numbers i) 0 ≡ false → differs s i j ≡ true → differs (without s done) i j ≡ true
      other j e z d = ⊎_elim (λ (k : done j ≡ true). rw (e, k, z)) (λ (k : done j ≡ false). rw (e, k) d) (either (done j))

  pub left_sound : Together s done → Sound (without s done)
  unfolding all holding
  left_sound pair = record {
    head = h.head;
    security = h.security;
    participant = h.participant;
    basket = h.basket;
    spare = h.spare;
    row = λ i l. left_row i l (pair i l);
    number = left_number;
    exposure = h.exposure;
    key = h.key;
    position = h.position;
    held = h.held;
  }

module _ (test : State → ℕ → Bool) (s : State) where
  -- pairs dropped together: what is left is sound
  pub rows_dropped_good : Good s → Together s (test s) → Good (rows_dropped test s)
  rows_dropped_good g together =
      let done = passed (test s) 256 in
      let pair : Together s done = λ i l p. rw (lt-ltb (partner_of s i) 256 (pair_of s g.facts i l p).partner_below, lt-ltb i 256 l) (together i l p) in
      rw (rows_turned test s) (record { facts = left_sound s g.facts done pair; fits = cleared_fits (among request_tables) done s g.fits })

  -- no other table changes, and no participant's bonds move
  pub rows_dropped_beside : (f i : ℕ) → among request_tables f ≡ false → rows_dropped test s f i ≡ s f i
  rows_dropped_beside f i m = rw (rows_turned test s, m)

  pub rows_dropped_holding : (p i : ℕ) → holding (rows_dropped test s) p i ≡ holding s p i
  unfolding holding
  rows_dropped_holding p i = rw (rows_turned test s)
