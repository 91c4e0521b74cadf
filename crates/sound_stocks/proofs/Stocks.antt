-- The pass over the positions, one nominal more, one exposure more, and what a failed test shows.
-- Assumes nothing.
use mathlib.Core.Path.{◌≡◌, refl, sym, ◌∙◌}
use mathlib.Core.Bool.{Bool, true, false, not, ◌&&◌, cond, and-false, or-false}
use mathlib.Core.List.{List}
use mathlib.Core.Logic.{⊎_elim}
use Prim.Native.Nat.{ℕ, ◌+◌, ◌*◌, ◌-◌, ◌≤◌, ◌<◌}
use native.Mathlib.Nat.{add-zero}
use native.Mathlib.Decide.{ℕ_discrete, dec_lt}
use native.Mathlib.Omega.{arith}
use lib.Dec.{eqb}
use lib.ListN.{length, get_or, set, length-set, replicate, length-replicate, get_or-replicate}
use lib.Seq.{get_or-set_same, get_or-set_other}
use borrow.Author.Tests.{eq-eqb, ne_eqb, eqb-true, le-leb, leb-true, not-true, not-false}
use Rattle.laws.specs.Search.{all}
use Rattle.laws.specs.Sum.{sum}
use Rattle.laws.proofs.Cases.{either, clash, and_left, and_right}
use Rattle.laws.proofs.Sum.{sum_next, sum_mono}
use Rattle.book.specs.Layout.{in_use, exposure_givers, exposure_amounts, accounts, positions}
use Rattle.book.specs.State.{State}
use Rattle.book.specs.Fits.{Fits}
use Rattle.rules.specs.Stock.{position_from, holding}
use Rattle.rules.specs.ByRow.{sound_exposure, sound_position, sound_positions, sound_holding, sound_holdings}
use Rattle.facts.proofs.Truth.{all_of, below}
use Rattle.facts.proofs.Rows.{used_exposure, no_exposure, used_or_not}
use Rattle.row_tests.specs.Bytes.{empty_rows}
use Rattle.sound_stocks.specs.Stocks.{small_account, small_accounts, in_lots, sound_stocks, Stocking, Held, Adding, Judged}

-- what sound stocks say of each position and holding
module _ (s : State) (h : sound_stocks s ≡ true) where
  each_position : (e i : ℕ) → e < 64 → i < 64 → sound_position s e i ≡ true
  each_position e i a b = below (sound_position s e) 64 (below (sound_positions s) 64 (and_left (all (sound_positions s) 64 0) (all (sound_holdings s) 32 0) h) e a) i b

  each_holding : (p i : ℕ) → p < 32 → i < 64 → s accounts (64 * p + i) + sum (position_from s p i) 64 ≤ 500000000
  unfolding holding
  each_holding p i a b = leb-true _ _ (below (sound_holding s p) 64 (below (sound_holdings s) 32 (and_right (all (sound_positions s) 64 0) (all (sound_holdings s) 32 0) h) p a) i b)

not_sound : (s : State) → (sound_stocks s ≡ true → ⊥) → sound_stocks s ≡ false
not_sound s h = ⊎_elim (λ p. absurd (h p)) (λ p. p) (either (sound_stocks s))

-- judgements
module _ (s : State) {A : Type 0} where
  pub accepted : A → Judged s true A
  accepted a = record { pass = λ p. a; fail = λ p. clash refl p }

  pub refused : (sound_stocks s ≡ true → ⊥) → Judged s false A
  refused h = record { pass = λ p. clash p refl; fail = λ p. not_sound s h }

  module _ {b : Bool} (j : Judged s b A) where
    pub judged_fails : {B : Type 0} → not b ≡ true → Judged s false B
    judged_fails f = record { pass = λ p. clash p refl; fail = λ p. j.fail (not-true b f) }

    pub judged_passes : not b ≡ false → A
    judged_passes f = j.pass (not-false b f)

    pub judged_ends : not b ≡ true → false ≡ sound_stocks s
    judged_ends f = sym (j.fail (not-true b f))

-- accounts by themselves
pub account_nothing : (s : State) (p : ℕ) {r : Bool} → r ≡ empty_rows s accounts (64 * p) 64 → r ≡ true → true ≡ small_accounts s p
account_nothing s p e t =
    sym (all_of (small_account s p) 64 0 (λ i a l.
    let z : s accounts (64 * p + i) ≡ 0 = eqb-true _ 0 (below (λ i. eqb (s accounts (64 * p + i)) 0) 64 (sym e ∙ t) i l) in
    le-leb (s accounts (64 * p + i)) 500000000 (omega arith)))

pub accounts_fail : (s : State) {b : Bool} → b ≡ all (small_accounts s) 32 0 → not b ≡ true → false ≡ sound_stocks s
accounts_fail s {b} e f =
    sym (not_sound s (λ h. clash (all_of (small_accounts s) 32 0 (λ p a l. all_of (small_account s p) 64 0 (λ i c m. le-leb (s accounts (64 * p + i)) 500000000 (omega (arith, each_holding s h p i l m))))) (sym e ∙ not-true b f)))

pub held_starts : (s : State) {b : Bool} → b ≡ all (small_accounts s) 32 0 → not b ≡ false → Held s 0 (replicate 2048 0)
unfolding sum
held_starts s {b} e f =
    let none : (p i : ℕ) → p < 32 → i < 64 → get_or {A = ℕ} (replicate 2048 0) (64 * p + i) 0 ≡ 0 = λ p i a l. get_or-replicate {A = ℕ} 2048 (64 * p + i) 0 0 (omega arith) in
    record {
      long = length-replicate {A = ℕ} 2048 0;
      each = none;
      within = λ p i a l.
          let small : small_account s p i ≡ true = below (small_account s p) 64 (below (small_accounts s) 32 (sym e ∙ not-false b f) p a) i l in
          omega (arith, none p i a l, leb-true (s accounts (64 * p + i)) 500000000 small);
      lots = λ e l. absurd (omega arith);
    }

pub held_ends : (s : State) {n : ℕ} {held : List ℕ} → 64 ≤ n → n ≤ 64 → Held s n held → true ≡ sound_stocks s
unfolding holding
held_ends s {n} {held} a b h =
    let k : n ≡ 64 = omega arith in
    let position : all (sound_positions s) 64 0 ≡ true = all_of (sound_positions s) 64 0 (λ e c l. h.lots e (omega arith)) in
    let each : (p i : ℕ) → p < 32 → i < 64 → sound_holding s p i ≡ true = λ p i c l. le-leb (s accounts (64 * p + i) + sum (position_from s p i) 64) 500000000 (omega (arith, h.within p i c l, rw k at (h.each p i c l))) in
    let all_held : all (sound_holdings s) 32 0 ≡ true = all_of (sound_holdings s) 32 0 (λ p c l. all_of (sound_holding s p) 64 0 (λ i d m. each p i l m)) in
    sym (rw (position, all_held))

-- one exposure
module _ (s : State) (p e : ℕ) (o : Stocking s p e) where
  own_more : (i : ℕ) → sum (position_from s p i) (e + 1) ≡ sum (position_from s p i) e + s positions (64 * e + i)
  own_more i = sum_next (position_from s p i) e ∙ rw (eq-eqb (s in_use e) 1 o.used, eq-eqb (s exposure_givers e) p o.giver)

  other_same : (q i : ℕ) → (q ≡ p → ⊥) → sum (position_from s q i) (e + 1) ≡ sum (position_from s q i) e
  other_same q i n = sum_next (position_from s q i) e ∙ rw (eq-eqb (s in_use e) 1 o.used, ne_eqb (s exposure_givers e) q (λ m. n (sym m ∙ o.giver)), add-zero)

  pub adding_starts : {held : List ℕ} → Held s e held → Adding s p e (4 * 0) held
  adding_starts h = record {
    own = o;
    long = h.long;
    done = λ i l. absurd (omega arith);
    rest = λ i a l. h.each p i o.giver_below l;
    others = λ q i a l n. h.each q i a l;
    within = h.within;
    lots = λ i l. absurd (omega arith);
    before = h.lots;
  }

module _ (s : State) (p e i : ℕ) {held : List ℕ} (a : Adding s p e i held) where
  -- nominals of 0
  nothing : (n : ℕ) → i + n ≤ 64 → ((j : ℕ) → i ≤ j → j < i + n → s positions (64 * e + j) ≡ 0) → Adding s p e (i + n) held
  nothing n l z = record {
    own = a.own;
    long = a.long;
    done = λ j h. elim (dec_lt j i) [
      | yes m ↦ a.done j m
      | no m ↦ a.rest j (omega arith) (omega arith) ∙ sym (own_more s p e a.own j ∙ rw (z j (omega arith) h, add-zero))
    ];
    rest = λ j h k. a.rest j (omega arith) k;
    others = a.others;
    within = a.within;
    lots = λ j h. elim (dec_lt j i) [
      | yes m ↦ a.lots j m
      | no m ↦ rw (eq-eqb (s positions (64 * e + j)) 0 (z j (omega arith) h))
    ];
    before = a.before;
  }

  pub nominal_nothing : {n : ℕ} → i < 64 → n ≡ s positions (64 * e + i) → n ≡ 0 → Judged s true (Adding s p e (i + 1) held)
  nominal_nothing l q z = accepted s (nothing 1 (omega arith) (λ j h k. let m : j ≡ i = omega arith in rw m (sym q ∙ z)))

  module _ {n : ℕ} (l : i < 64) (q : n ≡ s positions (64 * e + i)) (z : n ≡ 0 → ⊥) {b : Bool} (bq : b ≡ in_lots s i n) where
    lots_are : sound_position s e i ≡ b
    lots_are =
        rw (ne_eqb (s positions (64 * e + i)) 0 (λ m. z (q ∙ m)), eq-eqb (s in_use e) 1 a.own.used, ne_eqb (s exposure_amounts e) 0 a.own.amount, ← q) (sym bq)

    pub nominal_not_whole : {B : Type 0} → not b ≡ true → Judged s false B
    nominal_not_whole f = refused s (λ h. clash (each_position s h e i a.own.below l) (lots_are ∙ not-true b f))

    -- what the giver has with it
    module _ (bf : not b ≡ false) {w x : ℕ} (wq : w ≡ get_or held (64 * p + i) 0) (xq : x ≡ s accounts (64 * p + i)) where
      sum_is : w + n ≡ sum (position_from s p i) (e + 1)
      sum_is = omega (arith, a.rest i (omega arith) l, own_more s p e a.own i)

      pub nominal_too_much : {B : Type 0} → 500000000 < x + (w + n) → Judged s false B
      nominal_too_much h = refused s (λ k.
          let top = each_holding s k p i a.own.giver_below l in
          let part : sum (position_from s p i) (e + 1) ≤ sum (position_from s p i) 64 = sum_mono (position_from s p i) (e + 1) 64 (omega (arith, a.own.below)) in
          omega (arith, sum_is, top, part))

      pub nominal_added : x + (w + n) ≤ 500000000 → Judged s true (Adding s p e (i + 1) (set held (64 * p + i) (w + n)))
      nominal_added h =
          let at = 64 * p + i in
          let y = w + n in
          let inside : at < length held = omega (arith, a.long, a.own.giver_below) in
          accepted s
          record {
            own = a.own;
            long = simp length-set a.long;
            done = λ j k. elim (ℕ_discrete j i) [
              | yes m ↦ rw (m, get_or-set_same held at y 0 inside) sum_is
              | no m ↦ get_or-set_other held at (64 * p + j) y 0 (λ r. omega arith) ∙ a.done j (omega arith)
            ];
            rest = λ j k r. get_or-set_other held at (64 * p + j) y 0 (λ m. omega arith) ∙ a.rest j (omega arith) r;
            others = λ r j k d m. get_or-set_other held at (64 * r + j) y 0 (λ g. m (omega arith)) ∙ a.others r j k d m;
            within = λ r j k d. elim (ℕ_discrete (64 * r + j) at) [
              | yes m ↦ rw (m, get_or-set_same held at y 0 inside, ← xq) h
              | no m ↦ rw (get_or-set_other held at (64 * r + j) y 0 m) (a.within r j k d)
            ];
            lots = λ j k. elim (ℕ_discrete j i) [
              | yes m ↦ rw m (lots_are ∙ not-false b bf)
              | no m ↦ a.lots j (omega arith)
            ];
            before = a.before;
          }

-- the sum fits
pub nominal_small : (s : State) (fits : Fits s) {p e i w n : ℕ} {held : List ℕ} → i < 64 → Adding s p e i held → w ≡ get_or held (64 * p + i) 0 → n ≡ s positions (64 * e + i) → s accounts (64 * p + i) + (w + n) ≤ 5000000000
nominal_small s fits {p} {e} {i} l a q r = omega (arith, a.within p i a.own.giver_below l, fits.fits positions (64 * e + i) (omega (arith, a.own.below)))

-- four nominals
pub four_nothing : (s : State) (p e k : ℕ) {held : List ℕ} {r : Bool} → k < 16 → Adding s p e (4 * k) held → r ≡ empty_rows s positions (64 * e + 4 * k) 4 → r ≡ true
    → Judged s true (Adding s p e (4 * (k + 1)) held)
four_nothing s p e k {held} l a q t =
    let next : 4 * k + 4 ≡ 4 * (k + 1) = omega arith in
    accepted s (rw next at (nothing s p e (4 * k) a 4 (omega arith) (λ j h m.
    let place : 64 * e + 4 * k + (j - 4 * k) ≡ 64 * e + j = omega arith in
    rw place at (eqb-true (s positions (64 * e + 4 * k + (j - 4 * k))) 0 (below (λ i. eqb (s positions (64 * e + 4 * k + i)) 0) 4 (sym q ∙ t) (j - 4 * k) (omega arith))))))

pub four_ends : (s : State) (p e k : ℕ) {i : ℕ} {held : List ℕ} → i ≤ 4 * k + 4 → 4 * k + 4 ≤ i → Adding s p e i held → Judged s true (Adding s p e (4 * (k + 1)) held)
four_ends s p e k {i} h g a = let next : i ≡ 4 * (k + 1) = omega arith in accepted s (rw next at a)

pub adding_ends : (s : State) (p e n : ℕ) {held : List ℕ} → 16 ≤ n → Adding s p e (4 * n) held → Judged s true (Held s (e + 1) held)
adding_ends s p e n {held} h a =
    accepted s
    record {
      long = a.long;
      each = λ q i b l. elim (ℕ_discrete q p) [
        | yes m ↦ rw m (a.done i (omega arith))
        | no m ↦ a.others q i b l m ∙ sym (other_same s p e a.own q i m)
      ];
      within = a.within;
      lots = λ d l. elim (ℕ_discrete d e) [
        | yes m ↦ rw m (all_of (sound_position s e) 64 0 (λ i b c. a.lots i (omega arith)))
        | no m ↦ a.before d (omega arith)
      ];
    }

-- an exposure of the amount 0 holds nothing
module _ (s : State) (e : ℕ) {held : List ℕ} (l : e < 64) (h : Held s e held) {x : ℕ} (xq : x ≡ s exposure_amounts e) (z : x ≡ 0) {r : Bool} (rq : r ≡ empty_rows s positions (64 * e) 64) where
  empty_sound : (i : ℕ) → eqb (s positions (64 * e + i)) 0 ≡ sound_position s e i
  empty_sound i = rw (eq-eqb (s exposure_amounts e) 0 (sym xq ∙ z), and-false, or-false)

  pub no_stock : Judged s r (Held s (e + 1) held)
  no_stock =
      let t : ℕ → Bool = λ i. eqb (s positions (64 * e + i)) 0 in
      record {
        pass = λ p. record {
          long = h.long;
          each = λ q i a b. h.each q i a b ∙ sym (sum_next (position_from s q i) e ∙ rw (eqb-true (s positions (64 * e + i)) 0 (below t 64 (sym rq ∙ p) i b)) (add_none (eqb (s in_use e) 1 && eqb (s exposure_givers e) q)));
          within = h.within;
          lots = λ d a. elim (ℕ_discrete d e) [
            | yes m ↦ rw m (all_of (sound_position s e) 64 0 (λ i b c. sym (empty_sound i) ∙ below t 64 (sym rq ∙ p) i c))
            | no m ↦ h.lots d (omega arith)
          ];
        };
        fail = λ p. not_sound s (λ k. clash (all_of t 64 0 (λ i a b. empty_sound i ∙ each_position s k e i l b)) (sym rq ∙ p));
      }
    where
      add_none : (b : Bool) {y : ℕ} → y + cond b 0 0 ≡ y
      add_none true = add-zero _
      add_none false = add-zero _

-- a sound exposure whose amount is not 0 is used, and its giver is one of the participants
pub stocking : (s : State) (e : ℕ) {x g : ℕ} → e < 64 → sound_exposure s e ≡ true → x ≡ s exposure_amounts e → (x ≡ 0 → ⊥) → g ≡ s exposure_givers e → Stocking s g e
stocking s e {x} {g} l h xq n gq =
    ⊎_elim
    (λ u. absurd (n (xq ∙ (no_exposure s e h u).amount)))
    (λ u. record {
      giver_below = rw gq (used_exposure s e h u).parties.giver_below;
      below = l;
      used = u;
      giver = sym gq;
      amount = λ m. n (xq ∙ m);
    })
    (used_or_not s e h)
