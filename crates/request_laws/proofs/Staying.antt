-- Request rows that a step leaves, or leaves but for their marks of cancel and end: they stay sound.
-- Assumes nothing.
use mathlib.Core.Path.{◌≡◌, refl, sym, ◌∙◌}
use mathlib.Core.Bool.{Bool, true, false, ◌&&◌}
use mathlib.Core.List.{[], ◌∷◌}
use mathlib.Core.Logic.{◌⊎◌, inl, inr, ⊎_elim}
use Prim.Native.Nat.{ℕ, ◌≤◌, ◌<◌}
use native.Mathlib.Omega.{arith}
use lib.Dec.{leb}
use borrow.Author.Tests.{le-leb, leb-true}
use Rattle.laws.proofs.Cases.{either}
use Rattle.book.specs.Layout.{numbers, request_kinds, sides, givers, takers, baskets_or_exposures, amounts, settlements, closings, settled_amounts, partners, pair_partials, cancels, ends, in_use}
use Rattle.book.specs.State.{State}
use Rattle.rules.specs.Requests.{is_used, is_return, is_paired, partner_of, exposure_of_fop}
use Rattle.rules.specs.ByRow.{sound_row}
use Rattle.facts.specs.Good.{Sound}
use Rattle.facts.proofs.Rows.{Fop, Return, Kind, fop, return, Fields, Pair, used_fields, used_paired, used_unpaired, unused_blank_lem, paired_sound, unpaired_sound, blank_sound}
use Rattle.facts.proofs.Truth.{split, join}
use Rattle.request_laws.proofs.Covering.{Covers, is_row_table, parties_kept, key_kept}

-- the tables of a request row but its marks of cancel and end
abbrev pub is_fixed : ℕ → Bool
is_fixed f = leb numbers f && leb f pair_partials

-- a row that stays, and one that stays but for those marks
abbrev pub SameRow : State → State → ℕ → Type 0
SameRow s t i = (f : ℕ) → is_row_table f ≡ true → t f i ≡ s f i

abbrev pub Fixed : State → State → ℕ → Type 0
Fixed s t i = (f : ℕ) → is_fixed f ≡ true → t f i ≡ s f i

pub same_fixed : (s t : State) (i : ℕ) → SameRow s t i → Fixed s t i
same_fixed s t i same f h =
    let k = split (leb numbers f ∷ leb f pair_partials ∷ []) h in
    same f (join (leb numbers f ∷ leb f ends ∷ []) (k.0, le-leb f ends (omega (arith, leb-true f pair_partials k.1))))

-- a paired row's partner is no row without a partner, and not its own
module _ (s : State) (h : Sound s) (i : ℕ) (l : i < 256) (u : is_used s i ≡ true) (p : is_paired s i ≡ true) where
  pub pair_of : Pair s i (partner_of s i)
  pair_of = (used_paired s i (h.row i l) u p).pair

  pub partner_paired : s partners (partner_of s i) ≡ 0 → ⊥
  partner_paired z = omega (arith, pair_of.named)

module _ {s t : State} (c : Covers s t) (h : Sound s) where
  module _ (i : ℕ) (same : Fixed s t i) where
    fop_kept : Fop s i → Fop t i
    fop_kept f = record {
      basket_below = rw (same baskets_or_exposures refl) f.basket_below;
      basket_known = rw (same baskets_or_exposures refl, c.map (s baskets_or_exposures i)) f.basket_known;
      amount_low = rw (same amounts refl, c.tolerance_same) f.amount_low;
      amount_high = rw (same amounts refl) f.amount_high;
      closing = rw (same closings refl) f.closing;
    }

    return_kept : Return s i → Return t i
    return_kept r =
        let o = s baskets_or_exposures i in
        let u : s in_use o ≡ 1 = r.exposure_used in
        record {
          exposure_below = rw (same baskets_or_exposures refl) r.exposure_below;
          exposure_used = rw (same baskets_or_exposures refl) (c.used o u);
          giver = rw (same baskets_or_exposures refl, same givers refl) (c.giver o u ∙ r.giver);
          taker = rw (same baskets_or_exposures refl, same takers refl) (c.taker o u ∙ r.taker);
          amount_low = rw (same amounts refl) r.amount_low;
          amount_high = rw (same amounts refl) r.amount_high;
          closing = same closings refl ∙ r.closing;
        }

    kind_kept : Kind s i → Kind t i
    kind_kept (fop e f) = fop (same request_kinds refl ∙ e) (fop_kept f)
    kind_kept (return e r) = return (same request_kinds refl ∙ e) (return_kept r)

    fields_kept : t cancels i ≤ 1 → t ends i ≤ 1 → Fields s i → Fields t i
    fields_kept cancel end f = record {
      number_below = rw (same numbers refl) (omega (arith, f.number_below, c.next_low));
      side = rw (same sides refl) f.side;
      parties = rw (same givers refl, same takers refl) (parties_kept c f.parties);
      kind = kind_kept f.kind;
      settlement = rw (same settlements refl) f.settlement;
      settled = rw (same settled_amounts refl, same amounts refl) f.settled;
      partial = rw (same pair_partials refl) f.partial;
      cancel = cancel;
      end = end;
    }

    pair_kept : (j : ℕ) → Fixed s t j → t ends i ≡ t ends j → Pair s i j → Pair t i j
    pair_kept j there end p =
        let both : (f : ℕ) → is_fixed f ≡ true → s f i ≡ s f j → t f i ≡ t f j = λ f k e. same f k ∙ e ∙ sym (there f k) in
        record {
          partner_below = p.partner_below;
          named = there partners refl ∙ p.named;
          opposite = rw (same sides refl, there sides refl) p.opposite;
          kind = both request_kinds refl p.kind;
          giver = both givers refl p.giver;
          taker = both takers refl p.taker;
          object = both baskets_or_exposures refl p.object;
          amount = both amounts refl p.amount;
          settlement = both settlements refl p.settlement;
          closing = both closings refl p.closing;
          settled = both settled_amounts refl p.settled;
          end = end;
          partial = both pair_partials refl p.partial;
        }

    belongs_kept : (is_return s i ≡ true) ⊎ (exposure_of_fop s i < 64) → (is_return t i ≡ true) ⊎ (exposure_of_fop t i < 64)
    belongs_kept (inl r) = inl (rw (same request_kinds refl) r)
    belongs_kept (inr b) =
        inr (rw (same givers refl, same takers refl, same baskets_or_exposures refl, same closings refl) (key_kept c (s givers i) (s takers i) (s baskets_or_exposures i) (s closings i) b))

    -- a used row that stays but for its marks; a partner that stays so too, and ends with it
    pub marked_row : i < 256 → is_used s i ≡ true → t cancels i ≤ 1 → t ends i ≤ 1
        → (is_paired s i ≡ true → Fixed s t (partner_of s i) × (t ends i ≡ t ends (partner_of s i))) → sound_row t i ≡ true
    marked_row l u cancel end follows =
        let used : is_used t i ≡ true = rw (same numbers refl) u in
        let fields = fields_kept cancel end (used_fields s i (h.row i l) u) in
        ⊎_elim
        (λ p.
        let q = used_paired s i (h.row i l) u p in
        let partner : partner_of t i ≡ partner_of s i = rw (same partners refl) in
        paired_sound t i used fields (rw (same partners refl) p)
        (record { pair = rw partner (pair_kept (partner_of s i) (follows p).0 (follows p).1 q.pair); belongs = belongs_kept q.belongs }))
        (λ p.
        let q = used_unpaired s i (h.row i l) u p in
        unpaired_sound t i used fields (rw (same partners refl) p) (record { settled = same settled_amounts refl ∙ q.settled; partial = same pair_partials refl ∙ q.partial }))
        (either (is_paired s i))

  -- an unused row that stays
  pub blank_row : (i : ℕ) → i < 256 → SameRow s t i → is_used s i ≡ false → sound_row t i ≡ true
  blank_row i l same u =
      blank_sound t i (rw (same numbers refl) u)
      (λ f g m. same f (join (leb numbers f ∷ leb f ends ∷ []) (le-leb numbers f (omega arith), le-leb f ends (omega arith))) ∙ unused_blank_lem s i (h.row i l) u f g m)

  -- a row that stays, with its partner
  pub same_row : (i : ℕ) → i < 256 → SameRow s t i → (is_used s i ≡ true → is_paired s i ≡ true → SameRow s t (partner_of s i)) → sound_row t i ≡ true
  same_row i l same partner =
      ⊎_elim
      (λ u.
      let f = used_fields s i (h.row i l) u in
      marked_row i (same_fixed s t i same) l u (rw (same cancels refl) f.cancel) (rw (same ends refl) f.end)
      (λ p. (same_fixed s t (partner_of s i) (partner u p), same ends refl ∙ (pair_of s h i l u p).end ∙ sym (partner u p ends refl))))
      (λ u. blank_row i l same u)
      (either (is_used s i))
