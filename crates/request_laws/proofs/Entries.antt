-- A request row that holds an accepted record's fields: it is sound, waiting or paired with another such row.
-- Assumes nothing.
use mathlib.Core.Path.{◌≡◌, refl, sym, ◌∙◌}
use mathlib.Core.Bool.{Bool, true, not, ◌&&◌, ◌||◌}
use mathlib.Core.List.{List}
use mathlib.Core.Logic.{◌⊎◌, inl, inr}
use Prim.Native.Nat.{ℕ, ◌+◌, ◌≤◌, ◌<◌}
use native.Mathlib.Omega.{arith}
use lib.Dec.{eqb}
use borrow.Author.Tests.{eq-eqb, ne_eqb}
use Rattle.laws.proofs.Cases.{and_left}
use Rattle.calendar.specs.Target.{open_day}
use Rattle.book.specs.Layout.{tolerance, next_number, numbers, request_kinds, sides, givers, takers, baskets_or_exposures, amounts, settlements, closings, settled_amounts, partners, pair_partials, cancels, ends, in_use, exposure_givers, exposure_takers}
use Rattle.book.specs.State.{State}
use Rattle.rules.specs.Requests.{is_used, is_return, is_paired, partner_of, exposure_with, exposure_of_fop, open_or_none}
use Rattle.rules.specs.Requesting.{with_row}
use Rattle.rules.specs.Fields.{side_in, giver_in, taker_in, basket_or_exposure_in, amount_in, settlement_in, closing_in, reference_in}
use Rattle.rules.specs.ByRow.{sound_row}
use Rattle.rules.specs.Stock.{basket_set_up}
use Rattle.facts.proofs.Rows.{Parties, Fop, Return, Kind, fop, return, Fields, Pair, paired_sound, unpaired_sound}
use Rattle.request_laws.proofs.Covering.{Covers, is_row_table, parties_kept, key_kept}
use Rattle.request_laws.proofs.Staying.{SameRow}

-- what an accepted record names, by its kind
pub record FopIn (s : State) (r : List ℕ) : Type 0 where
  pub basket_below : basket_or_exposure_in r < 16
  pub basket_known : basket_set_up s (basket_or_exposure_in r) ≡ true
  pub amount_low : s tolerance 0 ≤ amount_in r
  pub closing : open_or_none (closing_in 6 r) ≡ true

pub record ReturnIn (s : State) (r : List ℕ) : Type 0 where
  pub exposure_below : basket_or_exposure_in r < 64
  pub exposure_used : s in_use (basket_or_exposure_in r) ≡ 1
  pub giver : s exposure_givers (basket_or_exposure_in r) ≡ giver_in r
  pub taker : s exposure_takers (basket_or_exposure_in r) ≡ taker_in r

pub data KindIn (s : State) (k : ℕ) (r : List ℕ) : Type 0 where
  fop_in : k ≡ 6 → FopIn s r → KindIn s k r
  return_in : k ≡ 7 → ReturnIn s r → KindIn s k r

-- and of either kind; its days and its reference fit their bytes
pub record RequestIn (s : State) (k : ℕ) (r : List ℕ) : Type 0 where
  pub side : side_in r ≤ 1
  pub parties : Parties s (giver_in r) (taker_in r)
  pub kind : KindIn s k r
  pub amount_low : 1 ≤ amount_in r
  pub amount_high : amount_in r ≤ 1000000000000
  pub settlement : open_day (settlement_in r) ≡ true
  pub settlement_small : settlement_in r < 4294967296
  pub closing_small : closing_in k r < 4294967296
  pub reference_small : reference_in k r < 18446744073709551616

-- a pair of its requests is of returns, or there is an exposure with its key
abbrev pub Belongs : State → ℕ → List ℕ → Type 0
Belongs s k r = (k ≡ 7) ⊎ (exposure_with s (giver_in r) (taker_in r) (basket_or_exposure_in r) (closing_in k r) < 64)

-- the row i holds the record's fields, a number, a side, a partner's mark and the pair's partial mark; nothing is settled, and it has not ended
pub record Entry (t : State) (k : ℕ) (r : List ℕ) (i n a p m : ℕ) : Type 0 where
  pub number : t numbers i ≡ n
  pub kind : t request_kinds i ≡ k
  pub side : t sides i ≡ a
  pub giver : t givers i ≡ giver_in r
  pub taker : t takers i ≡ taker_in r
  pub object : t baskets_or_exposures i ≡ basket_or_exposure_in r
  pub amount : t amounts i ≡ amount_in r
  pub settlement : t settlements i ≡ settlement_in r
  pub closing : t closings i ≡ closing_in k r
  pub settled : t settled_amounts i ≡ 0
  pub partner : t partners i ≡ p
  pub partial : t pair_partials i ≡ m
  pub cancel : t cancels i ≤ 1
  pub end : t ends i ≡ 0

-- a row as it is made
pub entry_made : (s : State) (k : ℕ) (r : List ℕ) (i n a p m : ℕ) → Entry (with_row s k r i n a p m) k r i n a p m
unfolding with_row
entry_made s k r i n a p m =
    let here : eqb i i ≡ true = eq-eqb i i refl in
    record {
      number = rw here;
      kind = rw here;
      side = rw here;
      giver = rw here;
      taker = rw here;
      object = rw here;
      amount = rw here;
      settlement = rw here;
      closing = rw here;
      settled = rw here;
      partner = rw here;
      partial = rw here;
      cancel = rw here (omega arith);
      end = rw here;
    }

-- the tables of a row but the partner's mark and the pair's partial mark
abbrev pub is_entered : ℕ → Bool
is_entered f = is_row_table f && not (eqb f partners || eqb f pair_partials)

-- a row that stays, but for its pair, holds them still
pub entry_stays : {t u : State} {k : ℕ} {r : List ℕ} {i n a p m p' m' : ℕ} → Entry t k r i n a p m → ((f : ℕ) → is_entered f ≡ true → u f i ≡ t f i)
    → u partners i ≡ p' → u pair_partials i ≡ m' → Entry u k r i n a p' m'
entry_stays x same partner partial = record {
  number = same numbers refl ∙ x.number;
  kind = same request_kinds refl ∙ x.kind;
  side = same sides refl ∙ x.side;
  giver = same givers refl ∙ x.giver;
  taker = same takers refl ∙ x.taker;
  object = same baskets_or_exposures refl ∙ x.object;
  amount = same amounts refl ∙ x.amount;
  settlement = same settlements refl ∙ x.settlement;
  closing = same closings refl ∙ x.closing;
  settled = same settled_amounts refl ∙ x.settled;
  partner = partner;
  partial = partial;
  cancel = rw (same cancels refl) x.cancel;
  end = same ends refl ∙ x.end;
}

pub entry_same : {t u : State} {k : ℕ} {r : List ℕ} {i n a p m : ℕ} → Entry t k r i n a p m → SameRow t u i → Entry u k r i n a p m
entry_same x same =
    entry_stays x (λ f h. same f (and_left (is_row_table f) (not (eqb f partners || eqb f pair_partials)) h)) (same partners refl ∙ x.partner) (same pair_partials refl ∙ x.partial)

module _ {s t : State} {k : ℕ} {r : List ℕ} (c : Covers s t) (q : RequestIn s k r) where
  module _ {i n a p m : ℕ} (x : Entry t k r i n a p m) where
    entry_fop : k ≡ 6 → FopIn s r → Fop t i
    entry_fop e f = record {
      basket_below = rw x.object f.basket_below;
      basket_known = rw (x.object, c.map (basket_or_exposure_in r)) f.basket_known;
      amount_low = rw (x.amount, c.tolerance_same) f.amount_low;
      amount_high = rw x.amount q.amount_high;
      closing = rw (x.closing, e) f.closing;
    }

    entry_return : k ≡ 7 → ReturnIn s r → Return t i
    entry_return e f =
        let o = basket_or_exposure_in r in
        let u : s in_use o ≡ 1 = f.exposure_used in
        record {
          exposure_below = rw x.object f.exposure_below;
          exposure_used = rw x.object (c.used o u);
          giver = rw (x.object, x.giver) (c.giver o u ∙ f.giver);
          taker = rw (x.object, x.taker) (c.taker o u ∙ f.taker);
          amount_low = rw x.amount q.amount_low;
          amount_high = rw x.amount q.amount_high;
          closing = x.closing ∙ rw e;
        }

    entry_kind : KindIn s k r → Kind t i
    entry_kind (fop_in e f) = fop (x.kind ∙ e) (entry_fop e f)
    entry_kind (return_in e f) = return (x.kind ∙ e) (entry_return e f)

    entry_fields : n < t next_number 0 → a ≤ 1 → m ≤ 1 → Fields t i
    entry_fields below side partial = record {
      number_below = rw x.number below;
      side = rw x.side side;
      parties = rw (x.giver, x.taker) (parties_kept c q.parties);
      kind = entry_kind q.kind;
      settlement = rw x.settlement q.settlement;
      settled = omega (arith, x.settled);
      partial = rw x.partial partial;
      cancel = x.cancel;
      end = omega (arith, x.end);
    }

    entry_used : 0 < n → is_used t i ≡ true
    entry_used l = rw (x.number, ne_eqb n 0 (λ z. omega arith))

    entry_belongs : Belongs s k r → (is_return t i ≡ true) ⊎ (exposure_of_fop t i < 64)
    entry_belongs (inl e) = inl (rw (x.kind, e))
    entry_belongs (inr l) = inr (rw (x.giver, x.taker, x.object, x.closing) (key_kept c (giver_in r) (taker_in r) (basket_or_exposure_in r) (closing_in k r) l))

  -- a request that waits
  pub waiting_sound : {i n a : ℕ} → Entry t k r i n a 0 0 → 0 < n → n < t next_number 0 → a ≤ 1 → sound_row t i ≡ true
  waiting_sound {i} x low below side =
      unpaired_sound t i (entry_used x low) (entry_fields x below side (omega arith)) (rw x.partner) (record { settled = x.settled; partial = x.partial })

  -- two that are paired with each other
  module _ {i j n o a b m : ℕ} (x : Entry t k r i n a (j + 1) m) (y : Entry t k r j o b (i + 1) m) where
    entry_pair : j < 256 → a + b ≡ 1 → Pair t i j
    entry_pair row opposite = record {
      partner_below = row;
      named = y.partner;
      opposite = rw (x.side, y.side) opposite;
      kind = x.kind ∙ sym y.kind;
      giver = x.giver ∙ sym y.giver;
      taker = x.taker ∙ sym y.taker;
      object = x.object ∙ sym y.object;
      amount = x.amount ∙ sym y.amount;
      settlement = x.settlement ∙ sym y.settlement;
      closing = x.closing ∙ sym y.closing;
      settled = x.settled ∙ sym y.settled;
      end = x.end ∙ sym y.end;
      partial = x.partial ∙ sym y.partial;
    }

    pub pair_sound : j < 256 → a + b ≡ 1 → 0 < n → n < t next_number 0 → m ≤ 1 → Belongs s k r → sound_row t i ≡ true
    pair_sound row opposite low below partial belongs =
        let mate : partner_of t i ≡ j = omega (arith, x.partner) in
        let paired : is_paired t i ≡ true = rw (x.partner, ne_eqb (j + 1) 0 (λ z. omega arith)) in
        paired_sound t i (entry_used x low) (entry_fields x below (omega arith) partial) paired
        (record { pair = rw mate (entry_pair row opposite); belongs = entry_belongs x belongs })
