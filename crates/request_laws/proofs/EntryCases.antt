-- The three ways that a request enters: with the taker request made for it, paired with an equal one, or to wait. Each keeps all.
-- Assumes nothing.
use mathlib.Core.Path.{◌≡◌, refl, sym, ◌∙◌}
use mathlib.Core.Bool.{Bool, true, false, not, cond}
use mathlib.Core.List.{List, [], ◌∷◌}
use mathlib.Core.Logic.{inl, inr, ⊎_elim}
use Prim.Native.Nat.{ℕ, ◌+◌, ◌≤◌, ◌<◌}
use native.Mathlib.Decide.{ℕ_discrete}
use native.Mathlib.Omega.{arith}
use lib.Dec.{eqb, ltb}
use borrow.Author.Tests.{eqb-true, eqb-false, eq-eqb, ne_eqb, not-true, not-false, ltb-true}
use Rattle.laws.specs.Search.{count}
use Rattle.laws.proofs.Cases.{either, clash}
use Rattle.book.specs.Layout.{next_number, numbers, request_kinds, sides, givers, takers, baskets_or_exposures, amounts, settlements, closings, partners, pair_partials, ends}
use Rattle.book.specs.State.{State, put}
use Rattle.book.proofs.Images.{put_apart}
use Rattle.rules.specs.Requests.{is_used, is_paired, is_whole, is_live, allow_partial, free_row}
use Rattle.rules.specs.Requesting.{taker_follows, is_equal, earliest_equal, pairs_now, rows_needed, partial_mark, with_row, with_taker, with_equal, waiting, rows_entered}
use Rattle.rules.specs.Fields.{side_in, giver_in, taker_in, basket_or_exposure_in, amount_in, settlement_in, closing_in}
use Rattle.facts.proofs.Keeps.{Keeps}
use Rattle.facts.specs.Good.{Good}
use Rattle.rules.specs.ByRow.{sound_row}
use Rattle.facts.proofs.Rows.{Fields, head_facts, used_fields, used_unpaired, unused_blank_lem}
use Rattle.facts.proofs.Truth.{split}
use Rattle.request_laws.proofs.Covering.{Distinct, is_row_table, tables_differ, distinct_facts, leaving}
use Rattle.request_laws.proofs.Entries.{RequestIn, Belongs, Entry, is_entered, entry_made, entry_stays, entry_same, waiting_sound, pair_sound}
use Rattle.request_laws.proofs.Finding.{Free, free_row_lem, second_row, earliest_equal_lem}
use Rattle.request_laws.proofs.Touching.{Touches, Writes, unwritten, write, write_row, touch_next, touches_cover, touches_keep}

-- a number above all others is distinct from them
distinct_more : {m : ℕ → ℕ} (i n : ℕ) → Distinct m → ((l : ℕ) → l < 256 → m l < n) → Distinct (λ l. cond (eqb l i) n (m l))
distinct_more {m} i n d high j k a b e =
    elim (ℕ_discrete j i) [
      | yes p ↦ absurd (let z : n ≡ m k = rw (eq-eqb j i p, ne_eqb k i (λ q. omega arith)) at e in omega (arith, high k (omega arith)))
      | no p ↦
          elim (ℕ_discrete k i) [
            | yes q ↦ absurd (let z : m j ≡ n = rw (ne_eqb j i p, eq-eqb k i q) at e in omega (arith, high j a))
            | no q ↦ rw (ne_eqb j i p) (d j k a b (rw (ne_eqb j i p, ne_eqb k i q) at e))
          ]
    ]

-- the number itself is below the next
more_below : {m : ℕ → ℕ} (i n : ℕ) → ((l : ℕ) → l < 256 → m l < n) → (l : ℕ) → l < 256 → cond (eqb l i) n (m l) < n + 1
more_below {m} i n high l h =
    elim (ℕ_discrete l i) [
      | yes p ↦ rw (eq-eqb l i p) (omega arith)
      | no p ↦ rw (ne_eqb l i p) (omega (arith, high l h))
    ]

mark_le : (b : Bool) → cond b 1 0 ≤ 1
mark_le true = omega arith
mark_le false = omega arith

module _ (s : State) (good : Good s) where
  numbers_below : (l : ℕ) → l < 256 → s numbers l < s next_number 0
  numbers_below l h =
      ⊎_elim
      (λ u. (used_fields s l (good.facts.row l h) u).number_below)
      (λ u. omega (arith, (head_facts s good.facts.head).next_low, eqb-true (s numbers l) 0 (not-false (eqb (s numbers l) 0) u)))
      (either (is_used s l))

  free_alone : {i : ℕ} → Free s i → s partners i ≡ 0
  free_alone {i} free = unused_blank_lem s i (good.facts.row i free.below) (rw free.unused) partners (omega arith) (omega arith)

-- rows and numbers for what enters
pub record Enough (s : State) (r : List ℕ) : Type 0 where
  pub rows : rows_needed s r ≤ count (λ i. eqb (s numbers i) 0) 256 0
  pub numbers : s next_number 0 + rows_needed s r ≤ 1000000000

pub needed_low : (b : Bool) → 1 ≤ cond b 2 1
needed_low true = omega arith
needed_low false = omega arith

-- an equal request that waits
record Waits (s : State) (k : ℕ) (r : List ℕ) (j : ℕ) : Type 0 where
  used : is_used s j ≡ true
  fields : Fields s j
  opposite : s sides j + side_in r ≡ 1
  entry : Entry s k r j (s numbers j) (s sides j) 0 0

equal_waits : (s : State) (k : ℕ) (r : List ℕ) (j : ℕ) → sound_row s j ≡ true → is_equal s k r j ≡ true → Waits s k r j
equal_waits s k r j sound h =
    let t = split (is_live s j ∷ not (is_paired s j) ∷ eqb (s sides j + side_in r) 1 ∷ eqb (s request_kinds j) k ∷ eqb (s givers j) (giver_in r) ∷ eqb (s takers j) (taker_in r) ∷ eqb (s baskets_or_exposures j) (basket_or_exposure_in r) ∷ eqb (s amounts j) (amount_in r) ∷ eqb (s settlements j) (settlement_in r) ∷ eqb (s closings j) (closing_in k r) ∷ []) h in
    let live = split (is_used s j ∷ eqb (s ends j) 0 ∷ not (is_whole s j) ∷ []) t.0 in
    let alone = not-true (is_paired s j) t.1.0 in
    let unpaired = used_unpaired s j sound live.0 alone in
    let fields = used_fields s j sound live.0 in
    record {
      used = live.0;
      fields = fields;
      opposite = eqb-true (s sides j + side_in r) 1 t.1.1.0;
      entry = record {
        number = refl;
        kind = eqb-true (s request_kinds j) k t.1.1.1.0;
        side = refl;
        giver = eqb-true (s givers j) (giver_in r) t.1.1.1.1.0;
        taker = eqb-true (s takers j) (taker_in r) t.1.1.1.1.1.0;
        object = eqb-true (s baskets_or_exposures j) (basket_or_exposure_in r) t.1.1.1.1.1.1.0;
        amount = eqb-true (s amounts j) (amount_in r) t.1.1.1.1.1.1.1.0;
        settlement = eqb-true (s settlements j) (settlement_in r) t.1.1.1.1.1.1.1.1.0;
        closing = eqb-true (s closings j) (closing_in k r) t.1.1.1.1.1.1.1.1.1;
        settled = unpaired.settled;
        partner = eqb-true (s partners j) 0 (not-false (eqb (s partners j) 0) alone);
        partial = unpaired.partial;
        cancel = fields.cancel;
        end = eqb-true (s ends j) 0 live.1.0;
      };
    }

module _ (s : State) (k : ℕ) (r : List ℕ) (good : Good s) (q : RequestIn s k r) where
  abbrev n : ℕ
  n = s next_number 0

  abbrev i : ℕ
  i = free_row s

  distinct : Distinct (s numbers)
  distinct = distinct_facts s good.facts.number

  next_low : 1 ≤ n
  next_low = (head_facts s good.facts.head).next_low

  -- a row as it is made, with another number for the next request
  last_made : (t : State) (l n₁ a p m x : ℕ) → Entry (put (with_row t k r l n₁ a p m) next_number 0 x) k r l n₁ a p m
  unfolding with_row
  last_made t l n₁ a p m x =
      let made = entry_made t k r l n₁ a p m in
      entry_stays made (λ f h. put_apart (with_row t k r l n₁ a p m) next_number 0 x f l (tables_differ is_entered f next_number h refl)) made.partner made.partial

  -- a request that waits
  waiting_keeps : Free s i → n + 1 ≤ 1000000000 → (a b m : ℕ) → Keeps s (leaving a b m (waiting s k r) [])
  unfolding waiting with_row
  waiting_keeps free high =
      let touched : Touches s (waiting s k r) i i =
      touch_next (n + 1) (omega arith) (write_row i n (side_in r) 0 0 q (inl refl) free.below (omega arith) q.side (omega arith) (omega arith) (unwritten i i good.fits)) in
      let low : n ≤ n + 1 = omega arith in
      let own = waiting_sound (touches_cover touched low) q (last_made s i n (side_in r) 0 0 (n + 1)) (omega (arith, next_low)) (omega arith) q.side in
      let alone = free_alone s good free in
      touches_keep touched low good high alone alone own own (distinct_more i n distinct (numbers_below s good))

  abbrev mark : ℕ
  mark = partial_mark s r

  small_mark : mark ≤ 1
  small_mark = mark_le (allow_partial s (giver_in r) (taker_in r))

  -- the two rows of a new pair
  pair_keeps : {t : State} {j n₁ n₂ a₁ a₂ : ℕ} → Touches s t i j → Free s i → j < 256 → s partners j ≡ 0 → Entry t k r i n₁ a₁ (j + 1) mark → Entry t k r j n₂ a₂ (i + 1) mark
      → a₁ + a₂ ≡ 1 → Belongs s k r → 0 < n₁ → n₁ < t next_number 0 → 0 < n₂ → n₂ < t next_number 0 → n ≤ t next_number 0 → t next_number 0 ≤ 1000000000 → Distinct (t numbers)
      → (a b m : ℕ) → Keeps s (leaving a b m t [])
  pair_keeps touched free row unpaired own mate opposite belongs low₁ below₁ low₂ below₂ low high =
      let covers = touches_cover touched low in
      touches_keep touched low good high (free_alone s good free) unpaired
      (pair_sound covers q own mate row opposite low₁ below₁ small_mark belongs)
      (pair_sound covers q mate own free.below (omega arith) low₂ below₂ small_mark belongs)

  -- the row i of a request and the row j of the taker request made for it
  taker_keeps : Free s i → Free s (free_row (put s numbers i n)) → (i ≡ free_row (put s numbers i n) → ⊥) → n + 2 ≤ 1000000000 → Belongs s k r
      → (a b m : ℕ) → Keeps s (leaving a b m (with_taker s k r) [])
  unfolding with_taker with_row
  taker_keeps free second differ high belongs =
      let j = free_row (put s numbers i n) in
      let w = with_row s k r i n 0 (j + 1) mark in
      let first = write_row i n 0 (j + 1) mark q (inl refl) free.below (omega arith) (omega arith) (omega (arith, second.below)) small_mark (unwritten i j good.fits) in
      let then : (o : State) (h : ℕ) → Writes is_row_table o w h j → Touches o (with_taker s k r) h j = λ o h c.
      touch_next (n + 2) (omega arith) (write_row j (n + 1) 1 (i + 1) mark q (inr refl) second.below (omega arith) (omega arith) (omega (arith, free.below)) small_mark c) in
      let own = entry_same (entry_made s k r i n 0 (j + 1) mark) ((then w j (unwritten j j first.fits)).other i differ differ) in
      let apart = distinct_more j (n + 1) (distinct_more i n distinct (numbers_below s good)) (more_below i n (numbers_below s good)) in
      pair_keeps (then s i first) free second.below (free_alone s good second) own (last_made w j (n + 1) 1 (i + 1) mark (n + 2)) refl belongs
      (omega (arith, next_low)) (omega arith) (omega arith) (omega arith) (omega arith) high apart

  -- the row i of a request that pairs with the row j, which waits
  equal_keeps : (j : ℕ) → Free s i → j < 256 → Waits s k r j → n + 1 ≤ 1000000000 → Belongs s k r → (a b m : ℕ) → Keeps s (leaving a b m (with_equal s k r j) [])
  unfolding with_equal with_row
  equal_keeps j free row waits high belongs =
      let t = with_equal s k r j in
      let w = with_row s k r i n (side_in r) (j + 1) mark in
      let differ : i ≡ j → ⊥ = λ e. clash waits.used (rw (← e, free.unused)) in
      let first : (h : ℕ) → Writes is_row_table s w i h = λ h.
      write_row i n (side_in r) (j + 1) mark q (inl refl) free.below (omega arith) q.side (omega arith) small_mark (unwritten i h good.fits) in
      let then : (o : State) (h : ℕ) → Writes is_row_table o w h j → Touches o t h j = λ o h c.
      touch_next (n + 1) (omega arith)
      (write pair_partials j mark refl (inr refl) row (omega (arith, small_mark)) (write partners j (i + 1) refl (inr refl) row (omega (arith, free.below)) c)) in
      let own = entry_same (entry_made s k r i n (side_in r) (j + 1) mark) ((then w j (unwritten j j (first i).fits)).other i differ differ) in
      let here : eqb j j ≡ true = eq-eqb j j refl in
      let w₁ = put w partners j (i + 1) in
      let stays : (f : ℕ) → is_entered f ≡ true → t f j ≡ s f j = λ f h.
      put_apart (put w₁ pair_partials j mark) next_number 0 (n + 1) f j (tables_differ is_entered f next_number h refl)
      ∙ put_apart w₁ pair_partials j mark f j (tables_differ is_entered f pair_partials h refl)
      ∙ put_apart w partners j (i + 1) f j (tables_differ is_entered f partners h refl)
      ∙ (first i).other f j (λ e. differ (sym e)) (λ e. differ (sym e)) in
      let mate = entry_stays {u = t} {p' = i + 1} {m' = mark} waits.entry stays (rw here) (rw here) in
      let low : s numbers j ≡ 0 → ⊥ = eqb-false (s numbers j) 0 (not-true (eqb (s numbers j) 0) waits.used) in
      pair_keeps (then s i (first j)) free row waits.entry.partner own mate (omega (arith, waits.opposite)) belongs
      (omega (arith, next_low)) (omega arith) (omega arith) (omega (arith, waits.fields.number_below)) (omega arith) high (distinct_more i n distinct (numbers_below s good))

  -- whichever way it goes
  pub entering_keeps : Enough s r → (pairs_now s k r ≡ true → Belongs s k r) → (a b m : ℕ) → Keeps s (leaving a b m (rows_entered s k r) [])
  entering_keeps room belongs a b m =
      let j = earliest_equal s k r in
      let free : Free s i = free_row_lem s (omega (arith, room.rows, needed_low (taker_follows s r))) in
      ⊎_elim
      (λ (f : taker_follows s r ≡ true).
      let two : 2 ≤ count (λ i. eqb (s numbers i) 0) 256 0 = rw f at room.rows in
      let high : n + 2 ≤ 1000000000 = rw f at room.numbers in
      let second = second_row s n two (omega (arith, next_low)) in
      rw f (taker_keeps free second.0 second.1 high (belongs (rw f)) a b m))
      (λ (f : taker_follows s r ≡ false).
      let high : n + 1 ≤ 1000000000 = rw f at room.numbers in
      ⊎_elim
      (λ (l : ltb j 256 ≡ true).
      let below = ltb-true j 256 l in
      rw (f, l) (equal_keeps j free below (equal_waits s k r j (good.facts.row j below) (earliest_equal_lem s k r below)) high (belongs (rw (f, l))) a b m))
      (λ (l : ltb j 256 ≡ false). rw (f, l) (waiting_keeps free high a b m))
      (either (ltb j 256)))
      (either (taker_follows s r))
