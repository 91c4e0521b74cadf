-- The pairs of a kind one after the other: one pair more, and the end. What is left of the list leads to the same end.
-- Assumes nothing.
use mathlib.Core.Path.{◌≡◌, refl, sym, ap, ◌∙◌}
use mathlib.Core.Bool.{cond}
use mathlib.Core.List.{List, [], ◌∷◌}
use mathlib.Core.Logic.{inl, ⊎_elim}
use Prim.Native.Nat.{ℕ, ◌+◌, ◌*◌, ◌/◌, ◌%◌, ◌≤◌, ◌<◌}
use native.Mathlib.Decide.{ℕ_discrete}
use native.Mathlib.Omega.{arith}
use lib.Dec.{eqb}
use lib.ListN.{length}
use borrow.Author.Tests.{eq-eqb, ne_eqb, eqb-true}
use Rattle.laws.proofs.Cases.{either, and_left, and_right}
use Rattle.laws.proofs.Lists.{Differ, sorted_by}
use Rattle.book.specs.Layout.{request_kinds}
use Rattle.book.specs.State.{State}
use Rattle.rules.specs.Outcome.{Step}
use Rattle.rules.specs.Settlement.{is_due, return_settled, settle_each, settlement, due_rows}
use Rattle.facts.specs.Good.{Good}
use Rattle.totals.specs.declared.Totals.{Totals}
use Rattle.totals.specs.Totals.{totals_of}
use Rattle.eligibility.specs.Fresh.{SamePrices}
use Rattle.eligibility.proofs.Fresh.{same_start, same_prices, same_then}
use Rattle.std.specs.Prelude.{Some, None}
use Rattle.due_pairs.specs.Due.{due_of, order_of, keys_of, least_from}
use Rattle.due_pairs.proofs.Keys.{number_small}
use Rattle.due_pairs.proofs.Next.{Ahead, ahead_next, none_left, some_left, next_row, next_order, next_fits, next_later}
use Rattle.settlement_laws.specs.Ways.{PairOf, fop_settled, Way, fop_way, way_of, settle_by, left}
use Rattle.settlement_laws.proofs.Finding.{due_in, in_due, due_few, due_pair, due_sorted}
use Rattle.settlement_laws.proofs.Keeping.{AsWay, return_way_lem, fop_way_lem, left_holds, by_left, next_good, next_lined, fops_stay, settlement_by}
use Rattle.settlement_laws.proofs.Ordering.{before_earlier}
use Rattle.settlement_laws.proofs.Staying.{Lined, lined_start}
use Rattle.pair_settlement.proofs.Pairs.{pair_fields, kind_of}
use Rattle.settlement.specs.Passes.{begun, Alike, all_of, Room, Within, Passed}

-- one pair, as the code counts it
module _ (y : Way) (s : State) (t : Totals) (i : ℕ) {x : ℕ} {u : State} (xq : x ≡ y.amount s i) (uq : u ≡ left y s i) where
  pub uncounted : x ≡ 0 → Alike (begun u t) (settle_by y (begun s t) i)
  unfolding settle_by
  uncounted z =
      let none = eq-eqb (y.amount s i) 0 (sym xq ∙ z) in
      rw none (record { state = rw none at uq; fops = refl; returns = refl; cents = refl })

  pub counted : Differ x 0 → Alike (begun u (record { a = cond y.is_fop (t.a + 1) t.a; b = cond y.is_fop t.b (t.b + 1); m = t.m + x })) (settle_by y (begun s t) i)
  unfolding settle_by
  counted n =
      let some = ne_eqb (y.amount s i) 0 (λ z. n (xq ∙ z)) in
      rw some (record { state = rw some at uq; fops = refl; returns = refl; cents = ap (λ (z : ℕ). t.m + z) xq })

-- a pair of kind 7 is a return pair, any other a FOP pair
pub fop_kind_lem : {s : State} {kind i : ℕ} → Good s → PairOf s kind i → Differ kind 7 → PairOf s 6 i
fop_kind_lem g p n = record { below = p.below; used = p.used; paired = p.paired; kind_is = kind_of g (pair_fields g p).kind (λ e. n (sym p.kind_is ∙ e)) }

way_of_lem : (kind : ℕ) → AsWay (way_of kind) kind
way_of_lem kind =
    elim (ℕ_discrete kind 7) [
      | yes k ↦ rw (eq-eqb kind 7 k) (λ s i g p. return_way_lem s i g (rw k at p))
      | no k ↦ rw (ne_eqb kind 7 k) (λ s i g p. fop_way_lem s i g (fop_kind_lem g p k))
    ]

-- no price changes
way_prices : (kind : ℕ) (s : State) (i : ℕ) → SamePrices s (left (way_of kind) s i)
unfolding return_settled fop_settled
way_prices kind s i =
    left_holds (way_of kind) (SamePrices s) s i (same_start s) (λ n.
    ⊎_elim
    (λ e. rw e (same_prices s (return_settled s i) (λ j. refl) (λ j. refl) (λ j. refl) (λ j. refl) refl (λ b. refl)))
    (λ e. rw e (same_prices s (fop_settled s i) (λ j. refl) (λ j. refl) (λ j. refl) (λ j. refl) refl (λ b. refl)))
    (either (eqb kind 7)))

-- what is the same but for the events goes on the same
alike_then : {u v w : Step} → Alike u v → Alike v w → Alike u w
alike_then a b = record { state = a.state ∙ b.state; fops = a.fops ∙ b.fops; returns = a.returns ∙ b.returns; cents = a.cents ∙ b.cents }

module _ (y : Way) where
  alike_pair : {w v : Step} (i : ℕ) → Alike w v → Alike (settle_by y w i) (settle_by y v i)
  unfolding settle_by
  alike_pair {w} {v} i a =
      ⊎_elim
      (λ e. rw (e, rw a.state at e) a)
      (λ e. rw (e, rw a.state at e) (record {
        state = ap (λ (s : State). y.after s i) a.state;
        fops = ap (λ (n : ℕ). cond y.is_fop (n + 1) n) a.fops;
        returns = ap (λ (n : ℕ). cond y.is_fop n (n + 1)) a.returns;
        cents = rw (a.cents, a.state);
      }))
      (either (eqb (y.amount w.state i) 0))

  alike_each : (rows : List ℕ) {w v : Step} → Alike w v → Alike (settle_each (settle_by y) rows w) (settle_each (settle_by y) rows v)
  unfolding settle_each
  alike_each [] a = a
  alike_each (i ∷ rows) a = alike_each rows (alike_pair i a)

-- totals grow pair by pair, and stay within the room of a pass
within_next : {t₀ t r : Totals} {n : ℕ} → Within t₀ n t → Within t 1 r → Within t₀ (n + 1) r
within_next a b = record { fops = omega arith; returns = omega arith; cents = omega arith }

within_all : {t₀ t : Totals} {n : ℕ} → n ≤ 256 → Within t₀ n t → Within t₀ 256 t
within_all l a = record { fops = omega arith; returns = omega arith; cents = omega arith }

pub within_room : {t₀ t : Totals} {n : ℕ} → n ≤ 256 → Room 256 t₀ → Within t₀ n t → Room 512 t
within_room l m a = record { fops = omega arith; returns = omega arith; cents = omega arith }

-- all rows that are due are ahead when a pass begins: the key's order is the definition's
ahead_start : (s : State) (kind : ℕ) → Good s → Ahead s kind 0 (due_rows s kind)
ahead_start s kind g = record {
  inside = λ i h. let d = due_in s kind i h in (d.below, rw (eq-eqb (s request_kinds i) kind d.kind_is) d.due, omega (arith, (number_small s i g d.below (due_pair d).used).0));
  all = λ i l d h. in_due s kind i (record { below = l; kind_is = eqb-true (s request_kinds i) kind (and_left _ (is_due s i) d); due = and_right (eqb (s request_kinds i) kind) _ d });
  sorted = sorted_by (due_rows s kind)
      (λ i j a b h.
      let d = due_in s kind i a in
      let small = (number_small s i g d.below (due_pair d).used).1 in
      ⊎_elim (λ l. omega arith) (λ l. omega arith) (before_earlier s i j h))
      (due_sorted s kind g);
}

-- on the way, with n pairs tried and some rows left
pub record Underway (kind : ℕ) (s₀ : State) (t₀ : Totals) (n last : ℕ) (s : State) (t : Totals) (rows : List ℕ) : Type 0 where
  pub good : Good s
  pub prices : SamePrices s₀ s
  pub within : Within t₀ n t
  pub few : length rows + n ≤ 256
  pub lined : Lined s kind rows
  pub ahead : Ahead s₀ kind last rows
  pub leads : Alike (settle_each (settle_by (way_of kind)) rows (begun s t)) (all_of kind s₀ t₀)

pub underway_starts : (kind : ℕ) (s : State) (t : Totals) → Good s → Underway kind s t 0 0 s t (due_rows s kind)
underway_starts kind s t g = record {
  good = g;
  prices = same_start s;
  within = record { fops = omega arith; returns = omega arith; cents = omega arith };
  few = omega (arith, due_few s kind);
  lined = lined_start s kind g;
  ahead = ahead_start s kind g;
  leads = record { state = refl; fops = refl; returns = refl; cents = refl };
}

module _ {kind : ℕ} {s₀ : State} {t₀ : Totals} {n last : ℕ} {s : State} {t : Totals} where
  -- no row is left
  passed : n ≤ 256 → Underway kind s₀ t₀ n last s t [] → Passed kind s₀ t₀ s t
  unfolding settle_each
  passed l w = record { reached = w.leads; good = w.good; prices = w.prices; within = within_all l w.within }

  -- the least of the keys collected when the pass began is that of the first row left
  module _ (g₀ : Good s₀) {keys : List ℕ} (c : keys ≡ keys_of (due_of s₀ kind) (order_of s₀) 256) where
    pub underway_done : None ≡ least_from ((last + 1) * 256) keys → (rows : List ℕ) → Underway kind s₀ t₀ n last s t rows → Passed kind s₀ t₀ s t
    underway_done q [] w = passed (omega (arith, w.few)) w
    underway_done q (i ∷ rows) w = absurd (some_left kind last g₀ c w.ahead q)

    module _ {key : ℕ} (q : Some key ≡ least_from ((last + 1) * 256) keys) where
      pub next_pair : (rows : List ℕ) → Underway kind s₀ t₀ n last s t rows → PairOf s kind (key % 256)
      next_pair [] w = absurd (none_left kind last g₀ c w.ahead q)
      next_pair (i ∷ rows) w = rw (next_row kind last g₀ c w.ahead q) (due_pair (w.lined.due i (inl refl)))

      -- its place in the order is after the last
      pub next_place : (rows : List ℕ) → Underway kind s₀ t₀ n last s t rows → (last < key / 256) × (key / 256 < 72057594037927935)
      next_place [] w = absurd (none_left kind last g₀ c w.ahead q)
      next_place (i ∷ rows) w = (next_later kind last g₀ c w.ahead q, next_fits kind last g₀ c w.ahead q)

      -- one pair more
      pub underway_next : {u : State} {r : Totals} → Alike (begun u r) (settle_by (way_of kind) (begun s t) (key % 256)) → Within t 1 r
          → (rows : List ℕ) → Underway kind s₀ t₀ n last s t rows → (rest : List ℕ) × Underway kind s₀ t₀ (n + 1) (key / 256) u r rest
      unfolding settle_each
      underway_next a m [] w = absurd (none_left kind last g₀ c w.ahead q)
      underway_next {u} {r} a m (i ∷ rows) w =
          let b : Alike (begun u r) (settle_by (way_of kind) (begun s t) i) = rw (next_row kind last g₀ c w.ahead q) at a in
          let uq : u ≡ left (way_of kind) s i = b.state ∙ by_left (way_of kind) (begun s t) i in
          let p = due_pair (w.lined.due i (inl refl)) in (
            rows,
            record {
              good = rw uq (next_good (way_of_lem kind) s i w.good p);
              prices = same_then w.prices (rw uq (way_prices kind s i));
              within = within_next w.within m;
              few = omega (arith, w.few);
              lined = rw uq (next_lined (way_of_lem kind) w.good w.lined);
              ahead = rw (next_order kind last g₀ c w.ahead q) (ahead_next w.ahead);
              leads = alike_then (alike_each (way_of kind) rows b) w.leads;
            },
          )

-- "returns before FOPs": the two passes are the settlement
module _ {s u v : State} {t r : Totals} (g : Good s) (z : Passed 7 s (record { a = 0; b = 0; m = 0 }) u t) (y : Passed 6 u t v r) where
  both : Alike (begun v r) (settlement s)
  both =
      let rows : due_rows u 6 ≡ due_rows s 6 = rw z.reached.state (fops_stay s g) in
      rw (settlement_by s g) (alike_then (rw rows at y.reached) (alike_each fop_way (due_rows s 6) z.reached))

  pub settled_state : v ≡ (settlement s).state
  settled_state = both.state

  pub settled_totals : r ≡ totals_of (settlement s)
  settled_totals = rw (← both.fops, ← both.returns, ← both.cents)
