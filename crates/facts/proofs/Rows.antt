-- What the test says of one row, as facts, and back: parties, requests, pairs, exposures, positions.
-- Assumes nothing.
use mathlib.Core.Path.{◌≡◌, sym, ◌∙◌}
use mathlib.Core.Bool.{Bool, true, false, not, ◌&&◌, ◌||◌, cond, or-true}
use mathlib.Core.List.{[], ◌∷◌}
use mathlib.Core.Logic.{◌⊎◌, inl, inr, ⊎_elim}
use Prim.Native.Nat.{ℕ, ◌+◌, ◌*◌, ◌%◌, ◌≤◌, ◌<◌}
use native.Mathlib.Omega.{arith}
use lib.Dec.{eqb, leb, ltb}
use borrow.Author.Tests.{leb-true, le-leb, ltb-true, lt-ltb, eqb-true, eqb-false, eq-eqb, ne_eqb, not-true, not-false}
use Rattle.laws.specs.Search.{between}
use Rattle.laws.proofs.Cases.{either, or_cases}
use Rattle.laws.proofs.Least.{all_at, all_hit}
use Rattle.calendar.specs.Target.{open_day}
use Rattle.book.specs.Layout.{today, tolerance, next_number, lots, numbers, request_kinds, sides, givers, takers, baskets_or_exposures, amounts, settlements, closings, settled_amounts, partners, pair_partials, cancels, ends, in_use, exposure_givers, exposure_takers, exposure_baskets, exposure_closings, exposure_amounts, positions, term_tables}
use Rattle.book.specs.State.{State, rows_alike}
use Rattle.book.proofs.Tables.{every_from}
use Rattle.rules.specs.Requests.{is_used, is_fop, is_return, is_paired, partner_of, exposure_of_fop, open_or_none}
use Rattle.rules.specs.ByRow.{sound_head, sound_parties, basket_named, return_names, sound_fop, sound_return, sound_kind, sound_marks, sound_fields, same, marks_alike, sound_pair, sound_paired, sound_unpaired, sound_row, sound_exposure, sound_position}
use Rattle.rules.specs.Stock.{participant_set_up, security_set_up, basket_set_up}
use Rattle.facts.proofs.Truth.{split, join, between_facts, facts_between, all_of}

-- the book as a whole
pub record Head (s : State) : Type 0 where
  pub open_today : open_day (s today 0) ≡ true
  pub tolerance_low : 1 ≤ s tolerance 0
  pub tolerance_high : s tolerance 0 ≤ 100000000
  pub next_low : 1 ≤ s next_number 0
  pub next_high : s next_number 0 ≤ 1000000000

-- "every giver, taker .. named is set up, giver and taker differ"
pub record Parties (s : State) (giver taker : ℕ) : Type 0 where
  pub giver_below : giver < 32
  pub taker_below : taker < 32
  pub giver_known : participant_set_up s giver ≡ true
  pub taker_known : participant_set_up s taker ≡ true
  pub differ : giver ≡ taker → ⊥

-- a FOP's own fields, and a return's
pub record Fop (s : State) (i : ℕ) : Type 0 where
  pub basket_below : s baskets_or_exposures i < 16
  pub basket_known : basket_set_up s (s baskets_or_exposures i) ≡ true
  pub amount_low : s tolerance 0 ≤ s amounts i
  pub amount_high : s amounts i ≤ 1000000000000
  pub closing : open_or_none (s closings i) ≡ true

pub record Return (s : State) (i : ℕ) : Type 0 where
  pub exposure_below : s baskets_or_exposures i < 64
  pub exposure_used : s in_use (s baskets_or_exposures i) ≡ 1
  pub giver : s exposure_givers (s baskets_or_exposures i) ≡ s givers i
  pub taker : s exposure_takers (s baskets_or_exposures i) ≡ s takers i
  pub amount_low : 1 ≤ s amounts i
  pub amount_high : s amounts i ≤ 1000000000000
  pub closing : s closings i ≡ 0

pub data Kind (s : State) (i : ℕ) : Type 0 where
  fop : s request_kinds i ≡ 6 → Fop s i → Kind s i
  return : s request_kinds i ≡ 7 → Return s i → Kind s i

-- the fields of a used row
pub record Fields (s : State) (i : ℕ) : Type 0 where
  pub number_below : s numbers i < s next_number 0
  pub side : s sides i ≤ 1
  pub parties : Parties s (s givers i) (s takers i)
  pub kind : Kind s i
  pub settlement : open_day (s settlements i) ≡ true
  pub settled : s settled_amounts i ≤ s amounts i
  pub partial : s pair_partials i ≤ 1
  pub cancel : s cancels i ≤ 1
  pub end : s ends i ≤ 1

-- "paired rows name each other, .."
pub record Pair (s : State) (i j : ℕ) : Type 0 where
  pub partner_below : j < 256
  pub named : s partners j ≡ i + 1
  pub opposite : s sides i + s sides j ≡ 1
  pub kind : s request_kinds i ≡ s request_kinds j
  pub giver : s givers i ≡ s givers j
  pub taker : s takers i ≡ s takers j
  pub object : s baskets_or_exposures i ≡ s baskets_or_exposures j
  pub amount : s amounts i ≡ s amounts j
  pub settlement : s settlements i ≡ s settlements j
  pub closing : s closings i ≡ s closings j
  pub settled : s settled_amounts i ≡ s settled_amounts j
  pub end : s ends i ≡ s ends j
  pub partial : s pair_partials i ≡ s pair_partials j

-- a paired row: its pair, and the exposure of a FOP pair
pub record Paired (s : State) (i : ℕ) : Type 0 where
  pub pair : Pair s i (partner_of s i)
  pub belongs : (is_return s i ≡ true) ⊎ (exposure_of_fop s i < 64)

pub record Unpaired (s : State) (i : ℕ) : Type 0 where
  pub settled : s settled_amounts i ≡ 0
  pub partial : s pair_partials i ≡ 0

-- a used exposure
pub record Exposure (s : State) (e : ℕ) : Type 0 where
  pub parties : Parties s (s exposure_givers e) (s exposure_takers e)
  pub basket_below : s exposure_baskets e < 16
  pub basket_known : basket_set_up s (s exposure_baskets e) ≡ true
  pub closing : open_or_none (s exposure_closings e) ≡ true
  pub amount : s exposure_amounts e ≤ 10000000000000

-- an exposure that is not used
pub record NoExposure (s : State) (e : ℕ) : Type 0 where
  pub giver : s exposure_givers e ≡ 0
  pub taker : s exposure_takers e ≡ 0
  pub basket : s exposure_baskets e ≡ 0
  pub closing : s exposure_closings e ≡ 0
  pub amount : s exposure_amounts e ≡ 0

-- a position that is not 0
pub record Stocked (s : State) (e i : ℕ) : Type 0 where
  pub used : s in_use e ≡ 1
  pub amount : s exposure_amounts e ≡ 0 → ⊥
  pub known : security_set_up s i ≡ true
  pub whole : s positions (64 * e + i) % s lots i ≡ 0

module _ (s : State) where
  pub head_facts : sound_head s ≡ true → Head s
  head_facts h =
      let t = split (open_day (s today 0) ∷ between 1 100000000 (s tolerance 0) ∷ between 1 1000000000 (s next_number 0) ∷ []) h in
      let u = between_facts 1 100000000 (s tolerance 0) t.1.0 in
      let n = between_facts 1 1000000000 (s next_number 0) t.1.1 in
      record { open_today = t.0; tolerance_low = u.0; tolerance_high = u.1; next_low = n.0; next_high = n.1 }

  pub facts_head : Head s → sound_head s ≡ true
  facts_head h =
      join (open_day (s today 0) ∷ between 1 100000000 (s tolerance 0) ∷ between 1 1000000000 (s next_number 0) ∷ [])
      (h.open_today, (facts_between 1 100000000 (s tolerance 0) (h.tolerance_low, h.tolerance_high), facts_between 1 1000000000 (s next_number 0) (h.next_low, h.next_high)))

  pub parties_facts : (g t : ℕ) → sound_parties s g t ≡ true → Parties s g t
  parties_facts g t h =
      let u = split (ltb g 32 ∷ ltb t 32 ∷ participant_set_up s g ∷ participant_set_up s t ∷ not (eqb g t) ∷ []) h in
      record {
        giver_below = ltb-true g 32 u.0;
        taker_below = ltb-true t 32 u.1.0;
        giver_known = u.1.1.0;
        taker_known = u.1.1.1.0;
        differ = eqb-false g t (not-true (eqb g t) u.1.1.1.1);
      }

  pub facts_parties : (g t : ℕ) → Parties s g t → sound_parties s g t ≡ true
  facts_parties g t p =
      join (ltb g 32 ∷ ltb t 32 ∷ participant_set_up s g ∷ participant_set_up s t ∷ not (eqb g t) ∷ [])
      (lt-ltb g 32 p.giver_below, (lt-ltb t 32 p.taker_below, (p.giver_known, (p.taker_known, rw (ne_eqb g t p.differ)))))

  module _ (i : ℕ) where
    fop_facts : sound_fop s i ≡ true → Fop s i
    fop_facts h =
        let t = split (basket_named s (s baskets_or_exposures i) ∷ between (s tolerance 0) 1000000000000 (s amounts i) ∷ open_or_none (s closings i) ∷ []) h in
        let b = split (ltb (s baskets_or_exposures i) 16 ∷ basket_set_up s (s baskets_or_exposures i) ∷ []) t.0 in
        let a = between_facts (s tolerance 0) 1000000000000 (s amounts i) t.1.0 in
        record { basket_below = ltb-true (s baskets_or_exposures i) 16 b.0; basket_known = b.1; amount_low = a.0; amount_high = a.1; closing = t.1.1 }

    facts_fop : Fop s i → sound_fop s i ≡ true
    facts_fop f =
        join (basket_named s (s baskets_or_exposures i) ∷ between (s tolerance 0) 1000000000000 (s amounts i) ∷ open_or_none (s closings i) ∷ []) (
          join (ltb (s baskets_or_exposures i) 16 ∷ basket_set_up s (s baskets_or_exposures i) ∷ []) (lt-ltb (s baskets_or_exposures i) 16 f.basket_below, f.basket_known),
          (facts_between (s tolerance 0) 1000000000000 (s amounts i) (f.amount_low, f.amount_high), f.closing),
        )

    return_facts : sound_return s i ≡ true → Return s i
    return_facts h =
        let o = s baskets_or_exposures i in
        let t = split (return_names s i ∷ between 1 1000000000000 (s amounts i) ∷ eqb (s closings i) 0 ∷ []) h in
        let n = split (ltb o 64 ∷ eqb (s in_use o) 1 ∷ eqb (s exposure_givers o) (s givers i) ∷ eqb (s exposure_takers o) (s takers i) ∷ []) t.0 in
        let a = between_facts 1 1000000000000 (s amounts i) t.1.0 in
        record {
          exposure_below = ltb-true o 64 n.0;
          exposure_used = eqb-true (s in_use o) 1 n.1.0;
          giver = eqb-true (s exposure_givers o) (s givers i) n.1.1.0;
          taker = eqb-true (s exposure_takers o) (s takers i) n.1.1.1;
          amount_low = a.0;
          amount_high = a.1;
          closing = eqb-true (s closings i) 0 t.1.1;
        }

    facts_return : Return s i → sound_return s i ≡ true
    facts_return r =
        let o = s baskets_or_exposures i in
        join (return_names s i ∷ between 1 1000000000000 (s amounts i) ∷ eqb (s closings i) 0 ∷ []) (
          join (ltb o 64 ∷ eqb (s in_use o) 1 ∷ eqb (s exposure_givers o) (s givers i) ∷ eqb (s exposure_takers o) (s takers i) ∷ [])
              (lt-ltb o 64 r.exposure_below, (eq-eqb (s in_use o) 1 r.exposure_used, (eq-eqb (s exposure_givers o) (s givers i) r.giver, eq-eqb (s exposure_takers o) (s takers i) r.taker))),
          (facts_between 1 1000000000000 (s amounts i) (r.amount_low, r.amount_high), eq-eqb (s closings i) 0 r.closing),
        )

    kind_facts : sound_kind s i ≡ true → Kind s i
    kind_facts h =
        ⊎_elim
        (λ f. let t = split (is_fop s i ∷ sound_fop s i ∷ []) f in fop (eqb-true (s request_kinds i) 6 t.0) (fop_facts t.1))
        (λ r. let t = split (is_return s i ∷ sound_return s i ∷ []) r in return (eqb-true (s request_kinds i) 7 t.0) (return_facts t.1))
        (or_cases (is_fop s i && sound_fop s i) (is_return s i && sound_return s i) h)

    facts_kind : Kind s i → sound_kind s i ≡ true
    facts_kind (fop e f) = rw (eq-eqb (s request_kinds i) 6 e, facts_fop f)
    facts_kind (return e r) = rw (e, facts_return r)

    fields_facts : sound_fields s i ≡ true → Fields s i
    fields_facts h =
        let t = split (ltb (s numbers i) (s next_number 0) ∷ leb (s sides i) 1 ∷ sound_parties s (s givers i) (s takers i) ∷ sound_kind s i ∷ open_day (s settlements i) ∷ sound_marks s i ∷ []) h in
        let m = split (leb (s settled_amounts i) (s amounts i) ∷ leb (s pair_partials i) 1 ∷ leb (s cancels i) 1 ∷ leb (s ends i) 1 ∷ []) t.1.1.1.1.1 in
        record {
          number_below = ltb-true (s numbers i) (s next_number 0) t.0;
          side = leb-true (s sides i) 1 t.1.0;
          parties = parties_facts (s givers i) (s takers i) t.1.1.0;
          kind = kind_facts t.1.1.1.0;
          settlement = t.1.1.1.1.0;
          settled = leb-true (s settled_amounts i) (s amounts i) m.0;
          partial = leb-true (s pair_partials i) 1 m.1.0;
          cancel = leb-true (s cancels i) 1 m.1.1.0;
          end = leb-true (s ends i) 1 m.1.1.1;
        }

    facts_fields : Fields s i → sound_fields s i ≡ true
    facts_fields f =
        join (ltb (s numbers i) (s next_number 0) ∷ leb (s sides i) 1 ∷ sound_parties s (s givers i) (s takers i) ∷ sound_kind s i ∷ open_day (s settlements i) ∷ sound_marks s i ∷ []) (
          lt-ltb (s numbers i) (s next_number 0) f.number_below,
          (
            le-leb (s sides i) 1 f.side,
            (
              facts_parties (s givers i) (s takers i) f.parties,
              (
                facts_kind f.kind,
                (
                  f.settlement,
                  join (leb (s settled_amounts i) (s amounts i) ∷ leb (s pair_partials i) 1 ∷ leb (s cancels i) 1 ∷ leb (s ends i) 1 ∷ [])
                      (le-leb (s settled_amounts i) (s amounts i) f.settled, (le-leb (s pair_partials i) 1 f.partial, (le-leb (s cancels i) 1 f.cancel, le-leb (s ends i) 1 f.end))),
                ),
              ),
            ),
          ),
        )

    pair_facts : (j : ℕ) → sound_pair s i j ≡ true → Pair s i j
    pair_facts j h =
        let t = split (ltb j 256 ∷ eqb (s partners j) (i + 1) ∷ eqb (s sides i + s sides j) 1 ∷ same s request_kinds i j ∷ rows_alike s term_tables i j ∷ marks_alike s i j ∷ []) h in
        let u = split (same s givers i j ∷ same s takers i j ∷ same s baskets_or_exposures i j ∷ same s amounts i j ∷ same s settlements i j ∷ same s closings i j ∷ []) t.1.1.1.1.0 in
        let m = split (same s settled_amounts i j ∷ same s ends i j ∷ same s pair_partials i j ∷ []) t.1.1.1.1.1 in
        record {
          partner_below = ltb-true j 256 t.0;
          named = eqb-true (s partners j) (i + 1) t.1.0;
          opposite = eqb-true (s sides i + s sides j) 1 t.1.1.0;
          kind = eqb-true (s request_kinds i) (s request_kinds j) t.1.1.1.0;
          giver = eqb-true (s givers i) (s givers j) u.0;
          taker = eqb-true (s takers i) (s takers j) u.1.0;
          object = eqb-true (s baskets_or_exposures i) (s baskets_or_exposures j) u.1.1.0;
          amount = eqb-true (s amounts i) (s amounts j) u.1.1.1.0;
          settlement = eqb-true (s settlements i) (s settlements j) u.1.1.1.1.0;
          closing = eqb-true (s closings i) (s closings j) u.1.1.1.1.1;
          settled = eqb-true (s settled_amounts i) (s settled_amounts j) m.0;
          end = eqb-true (s ends i) (s ends j) m.1.0;
          partial = eqb-true (s pair_partials i) (s pair_partials j) m.1.1;
        }

    -- the terms of a pair
    alike_of : (j : ℕ) → Pair s i j → rows_alike s term_tables i j ≡ true
    alike_of j p =
        let e : (f : ℕ) → s f i ≡ s f j → same s f i j ≡ true = λ f. eq-eqb (s f i) (s f j) in
        join (same s givers i j ∷ same s takers i j ∷ same s baskets_or_exposures i j ∷ same s amounts i j ∷ same s settlements i j ∷ same s closings i j ∷ [])
        (e givers p.giver, (e takers p.taker, (e baskets_or_exposures p.object, (e amounts p.amount, (e settlements p.settlement, e closings p.closing)))))

    facts_pair : (j : ℕ) → Pair s i j → sound_pair s i j ≡ true
    facts_pair j p =
        join (ltb j 256 ∷ eqb (s partners j) (i + 1) ∷ eqb (s sides i + s sides j) 1 ∷ same s request_kinds i j ∷ rows_alike s term_tables i j ∷ marks_alike s i j ∷ []) (
          lt-ltb j 256 p.partner_below,
          (
            eq-eqb (s partners j) (i + 1) p.named,
            (
              eq-eqb (s sides i + s sides j) 1 p.opposite,
              (
                eq-eqb (s request_kinds i) (s request_kinds j) p.kind,
                (
                  alike_of j p,
                  join (same s settled_amounts i j ∷ same s ends i j ∷ same s pair_partials i j ∷ [])
                      (eq-eqb (s settled_amounts i) (s settled_amounts j) p.settled, (eq-eqb (s ends i) (s ends j) p.end, eq-eqb (s pair_partials i) (s pair_partials j) p.partial)),
                ),
              ),
            ),
          ),
        )

    paired_facts : sound_paired s i ≡ true → Paired s i
    paired_facts h =
        let t = split (sound_pair s i (partner_of s i) ∷ (is_return s i || ltb (exposure_of_fop s i) 64) ∷ []) h in
        record {
          pair = pair_facts (partner_of s i) t.0;
          belongs = ⊎_elim (λ r. inl r) (λ f. inr (ltb-true (exposure_of_fop s i) 64 f)) (or_cases (is_return s i) (ltb (exposure_of_fop s i) 64) t.1);
        }

    belongs_test : (is_return s i ≡ true) ⊎ (exposure_of_fop s i < 64) → (is_return s i || ltb (exposure_of_fop s i) 64) ≡ true
    belongs_test (inl r) = rw r
    belongs_test (inr l) = rw (lt-ltb (exposure_of_fop s i) 64 l, or-true)

    facts_paired : Paired s i → sound_paired s i ≡ true
    facts_paired p =
        join (sound_pair s i (partner_of s i) ∷ (is_return s i || ltb (exposure_of_fop s i) 64) ∷ []) (facts_pair (partner_of s i) p.pair, belongs_test p.belongs)

    unpaired_facts : sound_unpaired s i ≡ true → Unpaired s i
    unpaired_facts h =
        let t = split (eqb (s settled_amounts i) 0 ∷ eqb (s pair_partials i) 0 ∷ []) h in
        record { settled = eqb-true (s settled_amounts i) 0 t.0; partial = eqb-true (s pair_partials i) 0 t.1 }

    facts_unpaired : Unpaired s i → sound_unpaired s i ≡ true
    facts_unpaired u = rw (u.settled, u.partial)

    -- a used row, by its parts
    pub used_fields : sound_row s i ≡ true → is_used s i ≡ true → Fields s i
    used_fields h u =
        let t = split (sound_fields s i ∷ cond (is_paired s i) (sound_paired s i) (sound_unpaired s i) ∷ []) (rw u at h) in
        fields_facts t.0

    pub used_paired : sound_row s i ≡ true → is_used s i ≡ true → is_paired s i ≡ true → Paired s i
    used_paired h u p =
        let t = split (sound_fields s i ∷ cond (is_paired s i) (sound_paired s i) (sound_unpaired s i) ∷ []) (rw u at h) in
        paired_facts (rw p at t.1)

    pub used_unpaired : sound_row s i ≡ true → is_used s i ≡ true → is_paired s i ≡ false → Unpaired s i
    used_unpaired h u p =
        let t = split (sound_fields s i ∷ cond (is_paired s i) (sound_paired s i) (sound_unpaired s i) ∷ []) (rw u at h) in
        unpaired_facts (rw p at t.1)

    -- an unused row, in each of its tables
    pub unused_blank_lem : sound_row s i ≡ true → is_used s i ≡ false → (f : ℕ) → request_kinds ≤ f → f < request_kinds + 14 → s f i ≡ 0
    unused_blank_lem h u f g l =
        let t : ℕ → Bool = λ f. eqb (s f i) 0 in
        eqb-true (s f i) 0 (all_at t 15 numbers (sym (every_from t 15 numbers) ∙ (rw u at h)) f (omega arith) (omega arith))

    -- and back
    pub paired_sound : is_used s i ≡ true → Fields s i → is_paired s i ≡ true → Paired s i → sound_row s i ≡ true
    paired_sound u f e p = rw (u, facts_fields f, e) (facts_paired p)

    pub unpaired_sound : is_used s i ≡ true → Fields s i → is_paired s i ≡ false → Unpaired s i → sound_row s i ≡ true
    unpaired_sound u f e n = rw (u, facts_fields f, e) (facts_unpaired n)

    pub blank_sound : is_used s i ≡ false → ((f : ℕ) → request_kinds ≤ f → f < request_kinds + 14 → s f i ≡ 0) → sound_row s i ≡ true
    blank_sound u z =
        let t : ℕ → Bool = λ f. eqb (s f i) 0 in
        rw u (every_from t 15 numbers ∙ all_hit t 14 numbers (not-false (t numbers) u) ∙ all_of t 14 request_kinds (λ f g l. eq-eqb (s f i) 0 (z f g l)))

  module _ (e : ℕ) where
    -- an exposure is used or not
    pub used_exposure : sound_exposure s e ≡ true → s in_use e ≡ 1 → Exposure s e
    used_exposure h u =
        let t = split (sound_parties s (s exposure_givers e) (s exposure_takers e) ∷ basket_named s (s exposure_baskets e) ∷ open_or_none (s exposure_closings e) ∷ leb (s exposure_amounts e) 10000000000000 ∷ []) (rw u at h) in
        let b = split (ltb (s exposure_baskets e) 16 ∷ basket_set_up s (s exposure_baskets e) ∷ []) t.1.0 in
        record {
          parties = parties_facts (s exposure_givers e) (s exposure_takers e) t.0;
          basket_below = ltb-true (s exposure_baskets e) 16 b.0;
          basket_known = b.1;
          closing = t.1.1.0;
          amount = leb-true (s exposure_amounts e) 10000000000000 t.1.1.1;
        }

    pub exposure_sound : s in_use e ≡ 1 → Exposure s e → sound_exposure s e ≡ true
    exposure_sound u x =
        rw u
        (join (sound_parties s (s exposure_givers e) (s exposure_takers e) ∷ basket_named s (s exposure_baskets e) ∷ open_or_none (s exposure_closings e) ∷ leb (s exposure_amounts e) 10000000000000 ∷ []) (
          facts_parties (s exposure_givers e) (s exposure_takers e) x.parties,
          (
            join (ltb (s exposure_baskets e) 16 ∷ basket_set_up s (s exposure_baskets e) ∷ []) (lt-ltb (s exposure_baskets e) 16 x.basket_below, x.basket_known),
            (x.closing, le-leb (s exposure_amounts e) 10000000000000 x.amount),
          ),
        ))

    pub no_exposure : sound_exposure s e ≡ true → s in_use e ≡ 0 → NoExposure s e
    no_exposure h u =
        let t = split (eqb (s exposure_givers e) 0 ∷ eqb (s exposure_takers e) 0 ∷ eqb (s exposure_baskets e) 0 ∷ eqb (s exposure_closings e) 0 ∷ eqb (s exposure_amounts e) 0 ∷ []) (rw u at h) in
        record {
          giver = eqb-true (s exposure_givers e) 0 t.0;
          taker = eqb-true (s exposure_takers e) 0 t.1.0;
          basket = eqb-true (s exposure_baskets e) 0 t.1.1.0;
          closing = eqb-true (s exposure_closings e) 0 t.1.1.1.0;
          amount = eqb-true (s exposure_amounts e) 0 t.1.1.1.1;
        }

    pub no_exposure_sound : s in_use e ≡ 0 → NoExposure s e → sound_exposure s e ≡ true
    no_exposure_sound u x = rw (u, x.giver, x.taker, x.basket, x.closing, x.amount)

    pub used_or_not : sound_exposure s e ≡ true → (s in_use e ≡ 0) ⊎ (s in_use e ≡ 1)
    used_or_not h =
        ⊎_elim
        (λ z. inl (eqb-true (s in_use e) 0 z))
        (λ z. let t = split (eqb (s in_use e) 1 ∷ sound_parties s (s exposure_givers e) (s exposure_takers e) ∷ basket_named s (s exposure_baskets e) ∷ open_or_none (s exposure_closings e) ∷ leb (s exposure_amounts e) 10000000000000 ∷ []) (rw z at h) in inr (eqb-true (s in_use e) 1 t.0))
        (either (eqb (s in_use e) 0))

    -- a position is 0 or stocked
    pub position_facts : (i : ℕ) → sound_position s e i ≡ true → (s positions (64 * e + i) ≡ 0) ⊎ Stocked s e i
    position_facts i h =
        let x = s positions (64 * e + i) in
        ⊎_elim
        (λ z. inl (eqb-true x 0 z))
        (λ z. let t = split (eqb (s in_use e) 1 ∷ not (eqb (s exposure_amounts e) 0) ∷ security_set_up s i ∷ eqb (x % s lots i) 0 ∷ []) z in
        inr (record {
          used = eqb-true (s in_use e) 1 t.0;
          amount = eqb-false (s exposure_amounts e) 0 (not-true (eqb (s exposure_amounts e) 0) t.1.0);
          known = t.1.1.0;
          whole = eqb-true (x % s lots i) 0 t.1.1.1;
        }))
        (or_cases (eqb x 0) (eqb (s in_use e) 1 && (not (eqb (s exposure_amounts e) 0) && (security_set_up s i && eqb (x % s lots i) 0))) h)

    pub position_none : (i : ℕ) → s positions (64 * e + i) ≡ 0 → sound_position s e i ≡ true
    position_none i z = rw z

    pub position_stocked : (i : ℕ) → Stocked s e i → sound_position s e i ≡ true
    position_stocked i k =
        let x = s positions (64 * e + i) in
        let rest = join (eqb (s in_use e) 1 ∷ not (eqb (s exposure_amounts e) 0) ∷ security_set_up s i ∷ eqb (x % s lots i) 0 ∷ [])
        (eq-eqb (s in_use e) 1 k.used, (rw (ne_eqb (s exposure_amounts e) 0 k.amount), (k.known, eq-eqb (x % s lots i) 0 k.whole))) in
        rw (rest, or-true)
