-- A step that changes request rows and gives out exposures, and leaves the rest: which clauses of soundness follow from that alone.
-- Assumes nothing.
use mathlib.Core.Path.{◌≡◌, refl, sym, subst, fun_ext}
use mathlib.Core.Bool.{Bool, true, false, ◌&&◌, ◌||◌, cond}
use mathlib.Core.List.{List, []}
use mathlib.Core.Logic.{⊎_elim}
use Prim.Native.Nat.{ℕ, ◌≤◌, ◌<◌}
use native.Mathlib.Omega.{arith}
use lib.Dec.{eqb, leb}
use borrow.Author.Tests.{eqb-true, eqb-false, ne_eqb, not-true}
use Rattle.laws.specs.Search.{all}
use Rattle.laws.proofs.Cases.{either, clash, or_cases}
use Rattle.laws.proofs.Least.{all_at}
use Rattle.book.specs.Layout.{tolerance, next_number, modes, maps, numbers, ends, in_use, exposure_givers, exposure_takers, exposure_baskets, exposure_closings}
use Rattle.book.specs.State.{State}
use Rattle.book.specs.Fits.{Fits}
use Rattle.rules.specs.Outcome.{Step, Event}
use Rattle.rules.specs.Requests.{exposure_with}
use Rattle.rules.specs.Stock.{holding}
use Rattle.rules.specs.ByRow.{sound_row, differs, distinct_number}
use Rattle.facts.specs.Good.{Good}
use Rattle.facts.proofs.Truth.{all_of}
use Rattle.facts.proofs.Keeps.{Keeps}
use Rattle.facts.proofs.Rows.{Parties, head_facts, facts_head}
use Rattle.facts.proofs.Sums.{all_noted}
use Rattle.request_laws.proofs.Finding.{has_key_lem, key_facts, exposure_passes, exposure_found}

-- the tables of the request rows, and those that a step on request rows writes into
abbrev pub is_row_table : ℕ → Bool
is_row_table f = leb numbers f && leb f ends

abbrev pub is_touched : ℕ → Bool
is_touched f = eqb f next_number || is_row_table f

-- two tables that a test tells apart
pub tables_differ : (test : ℕ → Bool) (f g : ℕ) → test f ≡ true → test g ≡ false → f ≡ g → ⊥
tables_differ test f g p q e = clash p (rw e q)

-- "request numbers are distinct": each from those in the rows before it
abbrev pub Distinct : (ℕ → ℕ) → Type 0
Distinct m = (i j : ℕ) → i < 256 → j < i → m i ≡ m j → m i ≡ 0

module _ (s : State) where
  pub distinct_facts : ((i : ℕ) → i < 256 → distinct_number s i ≡ true) → Distinct (s numbers)
  distinct_facts h i j k l e =
      ⊎_elim
      (λ z. eqb-true (s numbers i) 0 z)
      (λ a. absurd (eqb-false (s numbers i) (s numbers j) (not-true (eqb (s numbers i) (s numbers j)) (all_at (differs s i) i 0 a j (omega arith) (omega arith))) e))
      (or_cases (eqb (s numbers i) 0) (all (differs s i) i 0) (h i k))

  pub facts_distinct : Distinct (s numbers) → (i : ℕ) → i < 256 → distinct_number s i ≡ true
  facts_distinct d i l =
      ⊎_elim
      (λ z. rw z)
      (λ z. rw z (all_of (differs s i) i 0 (λ j g m. rw (ne_eqb (s numbers i) (s numbers j) (λ e. eqb-false (s numbers i) 0 z (d i j l (omega arith) e))))))
      (either (eqb (s numbers i) 0))

-- the state t has all that request rows name in the state s: what is set up, the exposures in use; its next number is no lower
pub record Covers (s t : State) : Type 0 where
  pub mode : (p : ℕ) → t modes p ≡ s modes p
  pub map : (b : ℕ) → t maps b ≡ s maps b
  pub tolerance_same : t tolerance 0 ≡ s tolerance 0
  pub next_low : s next_number 0 ≤ t next_number 0
  pub used : (e : ℕ) → s in_use e ≡ 1 → t in_use e ≡ 1
  pub giver : (e : ℕ) → s in_use e ≡ 1 → t exposure_givers e ≡ s exposure_givers e
  pub taker : (e : ℕ) → s in_use e ≡ 1 → t exposure_takers e ≡ s exposure_takers e
  pub basket : (e : ℕ) → s in_use e ≡ 1 → t exposure_baskets e ≡ s exposure_baskets e
  pub closing : (e : ℕ) → s in_use e ≡ 1 → t exposure_closings e ≡ s exposure_closings e

module _ {s t : State} (c : Covers s t) where
  pub parties_kept : {giver taker : ℕ} → Parties s giver taker → Parties t giver taker
  parties_kept {giver} {taker} p = record {
    giver_below = p.giver_below;
    taker_below = p.taker_below;
    giver_known = rw (c.mode giver) p.giver_known;
    taker_known = rw (c.mode taker) p.taker_known;
    differ = p.differ;
  }

  -- an exposure that was found by its key is found again
  pub key_kept : (giver taker basket closing : ℕ) → exposure_with s giver taker basket closing < 64 → exposure_with t giver taker basket closing < 64
  key_kept giver taker basket closing h =
      let e = exposure_with s giver taker basket closing in
      let k = key_facts s giver taker basket closing e (exposure_passes s giver taker basket closing h) in
      let u = k.used in
      exposure_found t giver taker basket closing e h
      (has_key_lem t giver taker basket closing e (c.used e u) (rw (c.giver e u) k.giver) (rw (c.taker e u) k.taker) (rw (c.basket e u) k.basket) (rw (c.closing e u) k.closing))

-- a step, of which only the state and the events matter here
abbrev pub leaving : ℕ → ℕ → ℕ → State → List Event → Step
leaving a b m t es = record { a = a; b = b; m = m; state = t; events = es }

-- the tables of t where a step on request rows writes, and those of s elsewhere: whatever is said of the others is as it was in s
abbrev over : State → State → State
over s t f i = cond (is_touched f) (t f i) (s f i)

module _ {s t : State} (apart : (f i : ℕ) → is_touched f ≡ false → t f i ≡ s f i) (low : s next_number 0 ≤ t next_number 0) where
  pub rows_cover : Covers s t
  rows_cover = record {
    mode = λ p. apart modes p refl;
    map = λ b. apart maps b refl;
    tolerance_same = apart tolerance 0 refl;
    next_low = low;
    used = λ e u. rw (apart in_use e refl) u;
    giver = λ e u. apart exposure_givers e refl;
    taker = λ e u. apart exposure_takers e refl;
    basket = λ e u. apart exposure_baskets e refl;
    closing = λ e u. apart exposure_closings e refl;
  }

  over_is : over s t ≡ t
  over_is = fun_ext (λ f. fun_ext (λ i. ⊎_elim (λ e. rw e) (λ e. rw e (sym (apart f i e))) (either (is_touched f))))

  -- so what is left to show is of the request rows and their numbers
  pub rows_keep : Good s → t next_number 0 ≤ 1000000000 → ((i : ℕ) → i < 256 → sound_row t i ≡ true) → Distinct (t numbers) → Fits t
      → (a b m : ℕ) → Keeps s (leaving a b m t [])
  unfolding all_noted holding all
  rows_keep good high rows distinct fits a b m =
      let h = good.facts in
      let head = head_facts s h.head in
      let back = sym over_is in
      subst (λ (u : State). Keeps s (leaving a b m u [])) over_is
      (record {
        good = record {
          facts = record {
            head = facts_head (over s t) (record { open_today = head.open_today; tolerance_low = head.tolerance_low; tolerance_high = head.tolerance_high; next_low = omega (arith, head.next_low); next_high = high });
            security = h.security;
            participant = h.participant;
            basket = h.basket;
            spare = h.spare;
            row = λ i l. subst (λ (u : State). sound_row u i ≡ true) back (rows i l);
            number = facts_distinct (over s t) distinct;
            exposure = h.exposure;
            key = h.key;
            position = h.position;
            held = h.held;
          };
          fits = subst Fits back fits;
        };
        bonds = λ p i k l. refl;
        amounts = λ p x. x;
      })
