-- Document 01's sentence as facts of rows, and back: so the code's tests say the same as the paper (`by_row`).
-- Assumes nothing.
use mathlib.Core.Path.{◌≡◌}
use mathlib.Core.Bool.{Bool, true, false, not, ◌&&◌, ◌||◌, cond, or-true}
use mathlib.Core.List.{List, [], ◌∷◌, ◌++◌}
use mathlib.Core.Logic.{◌⊎◌, inl, inr, ⊎_elim}
use Prim.Native.Nat.{ℕ, suc, ◌+◌, ◌%◌, ◌≤◌, ◌<◌}
use native.Mathlib.Omega.{arith}
use lib.Dec.{eqb, leb, ltb}
use borrow.Author.Tests.{leb-true, le-leb, ltb-true, lt-ltb, eqb-true, eqb-false, eq-eqb, ne_eqb, not-true, not-false}
use Rattle.laws.specs.Search.{all, between, of_each}
use Rattle.laws.proofs.Cases.{and_left, and_right, either, clash, or_cases}
use Rattle.calendar.specs.Target.{open_day}
use Rattle.book.specs.Layout.{today, tolerance, next_number, lots, prices, haircuts, quote_days, modes, lists, partials, waiting_modes, waiting_lists, waiting_partials, maps, greatest_ages, numbers, request_kinds, sides, givers, takers, baskets_or_exposures, amounts, settlements, closings, settled_amounts, partners, pair_partials, cancels, ends, in_use, exposure_givers, exposure_takers, exposure_baskets, exposure_closings, exposure_amounts, spares, security_tables, profile_tables, waiting_tables, basket_tables, term_tables, request_tables, exposure_tables, rows_of}
use Rattle.book.specs.State.{State, rows_alike, row_blank}
use Rattle.rules.specs.Requests.{is_used, is_fop, is_return, is_paired, partner_of, open_or_none, is_in_use, exposure_of_fop}
use Rattle.rules.specs.Sound.{days_open, price_in_range, participant_in_range, fop_in_range, return_in_range, request_in_range, exposure_in_range, fields_in_range, numbers_distinct, pairs_agree, settled_within, parties_set_up, named_set_up, fop_pairs_belong, returns_name, exposures_within, keys_distinct, position_in, position_stands, positions_stand, zero_has_no_position, holdings_within, sound_as_written, sound}
use Rattle.rules.specs.SoundLayout.{blank_unless, change_waits, unused_blank, marks_agree, sound_layout}
use Rattle.rules.specs.ByRow.{sound_head, sound_security, sound_profile, sound_participant, sound_basket, same, sound_row, differs, distinct_number, sound_exposure, distinct_key, sound_position, sound_by_row}
use Rattle.rules.specs.Stock.{participant_set_up, security_set_up, basket_set_up, holding}
use Rattle.facts.specs.Good.{Sound}
use Rattle.facts.proofs.Facts.{by_row_facts, facts_by_row}
use Rattle.facts.proofs.Rows.{Parties, Fop, Return, Kind, fop, return, Fields, Paired, Exposure, head_facts, used_fields, used_paired, used_unpaired, unused_blank_lem, paired_sound, unpaired_sound, used_exposure, exposure_sound, no_exposure, used_or_not, position_facts, position_none, position_stocked}
use Rattle.facts.proofs.Truth.{Each, split, join, parts, whole, cond_then, agree, all_of, below, each_of, each_at, unless_of, unless_at, between_facts, facts_between}

-- the clauses of one row, and the lists of them that the sentence and the layout join
module _ (s : State) where
  abbrev age_in_range : ℕ → Bool
  age_in_range b = leb (s greatest_ages b) 255

  abbrev settled_fits : ℕ → Bool
  settled_fits i = leb (s settled_amounts i) (s amounts i) && (is_paired s i || eqb (s settled_amounts i) 0)

  abbrev parties_known : ℕ → Bool
  parties_known i = parties_set_up s (s givers i) (s takers i)

  abbrev is_fop_pair : ℕ → Bool
  is_fop_pair i = is_fop s i && is_paired s i

  abbrev holds : ℕ → ℕ → Bool
  holds e i = not (eqb (position_in s e i) 0)

  abbrev nothing : ℕ → Bool
  nothing e = eqb (s exposure_amounts e) 0

  abbrev no_position : ℕ → ℕ → Bool
  no_position e i = eqb (position_in s e i) 0

  abbrev no_closing : ℕ → Bool
  no_closing i = eqb (s closings i) 0

  abbrev mark_fits : ℕ → Bool
  mark_fits i = leb (s pair_partials i) 1 && leb (s cancels i) 1 && leb (s ends i) 1

  abbrev partial_fits : ℕ → Bool
  partial_fits i = cond (is_paired s i) (eqb (s pair_partials i) (s pair_partials (partner_of s i))) (eqb (s pair_partials i) 0)

  abbrev day_tests : List Bool
  day_tests = of_each 64 (security_set_up s) (λ i. open_day (s quote_days i)) ∷ of_each 256 (is_used s) (λ i. open_day (s settlements i) && open_or_none (s closings i)) ∷ of_each 64 (is_in_use s) (λ e. open_or_none (s exposure_closings e)) ∷ []

  abbrev range_tests : List Bool
  range_tests = of_each 64 (security_set_up s) (price_in_range s) ∷ all (participant_in_range s) 32 0 ∷ all age_in_range 16 0 ∷ of_each 256 (is_used s) (request_in_range s) ∷ of_each 64 (is_in_use s) (exposure_in_range s) ∷ []

  abbrev price_tests : ℕ → List Bool
  price_tests i = between 1 3000000 (s prices i) ∷ leb (s haircuts i) 9999 ∷ []

  abbrev participant_tests : ℕ → List Bool
  participant_tests p = leb (s partials p) 1 ∷ leb (s waiting_modes p) 3 ∷ leb (s waiting_partials p) 1 ∷ []

  abbrev request_tests : ℕ → List Bool
  request_tests i = ltb (s givers i) 32 ∷ ltb (s takers i) 32 ∷ (fop_in_range s i || return_in_range s i) ∷ []

  abbrev fop_tests : ℕ → List Bool
  fop_tests i = ltb (s baskets_or_exposures i) 16 ∷ between (s tolerance 0) 1000000000000 (s amounts i) ∷ []

  abbrev return_tests : ℕ → List Bool
  return_tests i = ltb (s baskets_or_exposures i) 64 ∷ between 1 1000000000000 (s amounts i) ∷ []

  abbrev exposure_tests : ℕ → List Bool
  exposure_tests e = ltb (s exposure_takers e) 32 ∷ ltb (s exposure_baskets e) 16 ∷ []

  abbrev pair_tests : ℕ → ℕ → List Bool
  pair_tests i j = eqb (s partners j) (i + 1) ∷ eqb (s sides i + s sides j) 1 ∷ rows_alike s (request_kinds ∷ (term_tables ++ (settled_amounts ∷ ends ∷ []))) i j ∷ []

  abbrev alike_tests : ℕ → ℕ → List Bool
  alike_tests i j = same s request_kinds i j ∷ same s givers i j ∷ same s takers i j ∷ same s baskets_or_exposures i j ∷ same s amounts i j ∷ same s settlements i j ∷ same s closings i j ∷ same s settled_amounts i j ∷ same s ends i j ∷ []

  abbrev party_tests : ℕ → ℕ → List Bool
  party_tests giver taker = participant_set_up s taker ∷ not (eqb giver taker) ∷ []

  abbrev named_tests : List Bool
  named_tests = of_each 256 (is_fop s) (λ i. basket_set_up s (s baskets_or_exposures i)) ∷ of_each 64 (is_in_use s) (λ e. parties_set_up s (s exposure_givers e) (s exposure_takers e) && basket_set_up s (s exposure_baskets e)) ∷ []

  abbrev stand_tests : ℕ → ℕ → List Bool
  stand_tests e i = security_set_up s i ∷ eqb (position_in s e i % s lots i) 0 ∷ []

  abbrev sentence_tests : List Bool
  sentence_tests = fields_in_range s ∷ numbers_distinct s ∷ pairs_agree s ∷ settled_within s ∷ named_set_up s ∷ fop_pairs_belong s ∷ returns_name s ∷ exposures_within s ∷ keys_distinct s ∷ positions_stand s ∷ zero_has_no_position s ∷ holdings_within s ∷ []

  abbrev blank_tests : List Bool
  blank_tests = blank_unless s 32 (participant_set_up s) profile_tables ∷ blank_unless s 32 (change_waits s) waiting_tables ∷ blank_unless s 16 (basket_set_up s) basket_tables ∷ blank_unless s 256 (is_used s) request_tables ∷ blank_unless s 64 (is_in_use s) exposure_tables ∷ all (λ k. eqb (s spares k) 0) (rows_of spares) 0 ∷ []

  abbrev mark_tests : List Bool
  mark_tests = all mark_fits 256 0 ∷ all partial_fits 256 0 ∷ []

  abbrev layout_tests : List Bool
  layout_tests = of_each 32 (change_waits s) (participant_set_up s) ∷ unused_blank s ∷ marks_agree s ∷ []

-- a profile by its ranges, or that it holds nothing
profile : (mode list partial : ℕ) → leb mode 3 ≡ true → leb partial 1 ≡ true → (not (eqb mode 0) ≡ false → (eqb mode 0 && (eqb list 0 && eqb partial 0)) ≡ true)
    → sound_profile mode list partial ≡ true
profile mode list partial m p z =
    ⊎_elim
    (λ e. rw e (and_right (eqb mode 0) (eqb list 0 && eqb partial 0) (z (rw e))))
    (λ (e : eqb mode 0 ≡ false). rw (e, m, p))
    (either (eqb mode 0))

-- from the sentence
module _ (s : State) (h : sound s ≡ true) where
  sentence : Each (days_open s ∷ sentence_tests s)
  unfolding sound
  sentence = parts (days_open s) (sentence_tests s) (and_left (sound_as_written s) (sound_layout s) h)

  layout : Each (between 1 1000000000 (s next_number 0) ∷ layout_tests s)
  unfolding sound
  layout = parts (between 1 1000000000 (s next_number 0)) (layout_tests s) (and_right (sound_as_written s) (sound_layout s) h)

  days : Each (open_day (s today 0) ∷ day_tests s)
  days = parts (open_day (s today 0)) (day_tests s) sentence.0

  ranges : Each (between 1 100000000 (s tolerance 0) ∷ range_tests s)
  ranges = parts (between 1 100000000 (s tolerance 0)) (range_tests s) sentence.1.0

  named : Each (of_each 256 (is_used s) (parties_known s) ∷ named_tests s)
  named = parts (of_each 256 (is_used s) (parties_known s)) (named_tests s) sentence.1.1.1.1.1.0

  blanks : Each (blank_unless s 64 (security_set_up s) security_tables ∷ blank_tests s)
  blanks = parts (blank_unless s 64 (security_set_up s) security_tables) (blank_tests s) layout.1.1.0

  marks : Each (of_each 256 (is_return s) (no_closing s) ∷ mark_tests s)
  marks = parts (of_each 256 (is_return s) (no_closing s)) (mark_tests s) layout.1.1.1

  head_test : sound_head s ≡ true
  head_test = join (open_day (s today 0) ∷ between 1 100000000 (s tolerance 0) ∷ between 1 1000000000 (s next_number 0) ∷ []) (days.0, (ranges.0, layout.0))

  security_test : (i : ℕ) → i < 64 → sound_security s i ≡ true
  security_test i l =
      ⊎_elim
      (λ u.
      let p = parts (between 1 1000000 (s lots i)) (price_tests s i) (each_at 64 (security_set_up s) (price_in_range s) ranges.1.0 i l u) in
      rw u (join (leb (s lots i) 1000000 ∷ between 1 3000000 (s prices i) ∷ leb (s haircuts i) 9999 ∷ open_day (s quote_days i) ∷ [])
      (and_right (leb 1 (s lots i)) (leb (s lots i) 1000000) p.0, (p.1.0, (p.1.1, each_at 64 (security_set_up s) _ days.1.0 i l u)))))
      (λ u. rw u (and_right (eqb (s lots i) 0) _ (unless_at 64 (security_set_up s) (row_blank s security_tables) blanks.0 i l u)))
      (either (security_set_up s i))

  participant_test : (p : ℕ) → p < 32 → sound_participant s p ≡ true
  participant_test p l =
      let r = parts (leb (s modes p) 3) (participant_tests s p) (below (participant_in_range s) 32 ranges.1.1.0 p l) in
      let waits : (participant_set_up s p || eqb (s waiting_modes p) 0) ≡ true = ⊎_elim
      (λ u. rw (each_at 32 (change_waits s) (participant_set_up s) layout.1.0 p l u))
      (λ u. rw (not-false (eqb (s waiting_modes p) 0) u, or-true))
      (either (change_waits s p)) in
      join (sound_profile (s modes p) (s lists p) (s partials p) ∷ sound_profile (s waiting_modes p) (s waiting_lists p) (s waiting_partials p) ∷ (participant_set_up s p || eqb (s waiting_modes p) 0) ∷ []) (
        profile (s modes p) (s lists p) (s partials p) r.0 r.1.0 (unless_at 32 (participant_set_up s) (row_blank s profile_tables) blanks.1.0 p l),
        (profile (s waiting_modes p) (s waiting_lists p) (s waiting_partials p) r.1.1.0 r.1.1.1 (unless_at 32 (change_waits s) (row_blank s waiting_tables) blanks.1.1.0 p l), waits),
      )

  basket_test : (b : ℕ) → b < 16 → sound_basket s b ≡ true
  basket_test b l =
      ⊎_elim
      (λ u. rw u (below (age_in_range s) 16 ranges.1.1.1.0 b l))
      (λ u. rw u (and_right (eqb (s maps b) 0) _ (unless_at 16 (basket_set_up s) (row_blank s basket_tables) blanks.1.1.1.0 b l u)))
      (either (basket_set_up s b))

  parties_of : (g t : ℕ) → ltb g 32 ≡ true → ltb t 32 ≡ true → parties_set_up s g t ≡ true → Parties s g t
  parties_of g t a b p =
      let k = parts (participant_set_up s g) (party_tests s g t) p in
      record {
        giver_below = ltb-true g 32 a;
        taker_below = ltb-true t 32 b;
        giver_known = k.0;
        taker_known = k.1.0;
        differ = eqb-false g t (not-true (eqb g t) k.1.1);
      }

  module _ (i : ℕ) (l : i < 256) where
    module _ (u : is_used s i ≡ true) where
      range : Each (leb (s sides i) 1 ∷ request_tests s i)
      range = parts (leb (s sides i) 1) (request_tests s i) (each_at 256 (is_used s) (request_in_range s) ranges.1.1.1.1.0 i l u)

      day : Each (open_day (s settlements i) ∷ open_or_none (s closings i) ∷ [])
      day = split (open_day (s settlements i) ∷ open_or_none (s closings i) ∷ []) (each_at 256 (is_used s) _ days.1.1.0 i l u)

      kinds : (fop_in_range s i ≡ true) ⊎ (return_in_range s i ≡ true)
      kinds = or_cases (fop_in_range s i) (return_in_range s i) range.1.1.1

      fop_of : fop_in_range s i ≡ true → Kind s i
      fop_of f =
          let t = parts (is_fop s i) (fop_tests s i) f in
          let a = between_facts (s tolerance 0) 1000000000000 (s amounts i) t.1.1 in
          fop (eqb-true (s request_kinds i) 6 t.0) (record {
            basket_below = ltb-true (s baskets_or_exposures i) 16 t.1.0;
            basket_known = each_at 256 (is_fop s) _ named.1.0 i l t.0;
            amount_low = a.0;
            amount_high = a.1;
            closing = day.1;
          })

      return_of : return_in_range s i ≡ true → Kind s i
      return_of r =
          let o = s baskets_or_exposures i in
          let t = parts (is_return s i) (return_tests s i) r in
          let a = between_facts 1 1000000000000 (s amounts i) t.1.1 in
          let n = split (is_in_use s o ∷ eqb (s exposure_givers o) (s givers i) ∷ eqb (s exposure_takers o) (s takers i) ∷ []) (each_at 256 (is_return s) _ sentence.1.1.1.1.1.1.1.0 i l t.0) in
          return (eqb-true (s request_kinds i) 7 t.0) (record {
            exposure_below = ltb-true o 64 t.1.0;
            exposure_used = eqb-true (s in_use o) 1 n.0;
            giver = eqb-true (s exposure_givers o) (s givers i) n.1.0;
            taker = eqb-true (s exposure_takers o) (s takers i) n.1.1;
            amount_low = a.0;
            amount_high = a.1;
            closing = eqb-true (s closings i) 0 (each_at 256 (is_return s) (no_closing s) marks.0 i l t.0);
          })

      fields : Fields s i
      fields =
          let m = parts (leb (s pair_partials i) 1) (leb (s cancels i) 1 ∷ leb (s ends i) 1 ∷ []) (below (mark_fits s) 256 marks.1.0 i l) in
          record {
            number_below = ltb-true (s numbers i) (s next_number 0) (and_left (ltb (s numbers i) (s next_number 0)) (all (differs s i) i 0) (each_at 256 (is_used s) _ sentence.1.1.0 i l u));
            side = leb-true (s sides i) 1 range.0;
            parties = parties_of (s givers i) (s takers i) range.1.0 range.1.1.0 (each_at 256 (is_used s) (parties_known s) named.0 i l u);
            kind = ⊎_elim fop_of return_of kinds;
            settlement = day.0;
            settled = leb-true (s settled_amounts i) (s amounts i) (and_left (leb (s settled_amounts i) (s amounts i)) _ (below (settled_fits s) 256 sentence.1.1.1.1.0 i l));
            partial = leb-true (s pair_partials i) 1 m.0;
            cancel = leb-true (s cancels i) 1 m.1.0;
            end = leb-true (s ends i) 1 m.1.1;
          }

      paired : is_paired s i ≡ true → Paired s i
      paired v =
          let j = partner_of s i in
          let p = parts (ltb j 256) (pair_tests s i j) (each_at 256 (is_paired s) _ sentence.1.1.1.0 i l v) in
          let a = split (alike_tests s i j) p.1.1.1 in
          record {
            pair = record {
              partner_below = ltb-true j 256 p.0;
              named = eqb-true (s partners j) (i + 1) p.1.0;
              opposite = eqb-true (s sides i + s sides j) 1 p.1.1.0;
              kind = eqb-true (s request_kinds i) (s request_kinds j) a.0;
              giver = eqb-true (s givers i) (s givers j) a.1.0;
              taker = eqb-true (s takers i) (s takers j) a.1.1.0;
              object = eqb-true (s baskets_or_exposures i) (s baskets_or_exposures j) a.1.1.1.0;
              amount = eqb-true (s amounts i) (s amounts j) a.1.1.1.1.0;
              settlement = eqb-true (s settlements i) (s settlements j) a.1.1.1.1.1.0;
              closing = eqb-true (s closings i) (s closings j) a.1.1.1.1.1.1.0;
              settled = eqb-true (s settled_amounts i) (s settled_amounts j) a.1.1.1.1.1.1.1.0;
              end = eqb-true (s ends i) (s ends j) a.1.1.1.1.1.1.1.1;
              partial = eqb-true (s pair_partials i) (s pair_partials j) (rw v at (below (partial_fits s) 256 marks.1.1 i l));
            };
            belongs = ⊎_elim
                (λ f. inr (ltb-true (exposure_of_fop s i) 64 (each_at 256 (is_fop_pair s) _ sentence.1.1.1.1.1.1.0 i l (join (is_fop s i ∷ is_paired s i ∷ []) ((parts (is_fop s i) (fop_tests s i) f).0, v)))))
                (λ r. inl (parts (is_return s i) (return_tests s i) r).0)
                kinds;
          }

    row_test : sound_row s i ≡ true
    row_test =
        ⊎_elim
        (λ u. ⊎_elim
        (λ v. paired_sound s i u (fields u) v (paired u v))
        (λ v. unpaired_sound s i u (fields u) v (record {
          settled = eqb-true (s settled_amounts i) 0 (rw v at (and_right (leb (s settled_amounts i) (s amounts i)) _ (below (settled_fits s) 256 sentence.1.1.1.1.0 i l)));
          partial = eqb-true (s pair_partials i) 0 (rw v at (below (partial_fits s) 256 marks.1.1 i l));
        }))
        (either (is_paired s i)))
        (λ u. rw u (unless_at 256 (is_used s) (row_blank s request_tables) blanks.1.1.1.1.0 i l u))
        (either (is_used s i))

    number_test : distinct_number s i ≡ true
    number_test =
        ⊎_elim
        (λ u. rw (and_right (ltb (s numbers i) (s next_number 0)) (all (differs s i) i 0) (each_at 256 (is_used s) _ sentence.1.1.0 i l u), or-true))
        (λ u. rw (not-false (eqb (s numbers i) 0) u))
        (either (is_used s i))

  module _ (e : ℕ) (l : e < 64) where
    no_row : is_in_use s e ≡ false → row_blank s exposure_tables e ≡ true
    no_row u = unless_at 64 (is_in_use s) (row_blank s exposure_tables) blanks.1.1.1.1.1.0 e l u

    no_mark : is_in_use s e ≡ false → eqb (s in_use e) 0 ≡ true
    no_mark u = and_left (eqb (s in_use e) 0) _ (no_row u)

    exposure_test : sound_exposure s e ≡ true
    exposure_test =
        ⊎_elim
        (λ u.
        let r = parts (ltb (s exposure_givers e) 32) (exposure_tests s e) (each_at 64 (is_in_use s) (exposure_in_range s) ranges.1.1.1.1.1 e l u) in
        let k = split (parties_set_up s (s exposure_givers e) (s exposure_takers e) ∷ basket_set_up s (s exposure_baskets e) ∷ []) (each_at 64 (is_in_use s) _ named.1.1 e l u) in
        exposure_sound s e (eqb-true (s in_use e) 1 u) (record {
          parties = parties_of (s exposure_givers e) (s exposure_takers e) r.0 r.1.0 k.0;
          basket_below = ltb-true (s exposure_baskets e) 16 r.1.1;
          basket_known = k.1;
          closing = each_at 64 (is_in_use s) _ days.1.1.1 e l u;
          amount = leb-true (s exposure_amounts e) 10000000000000 (below _ 64 sentence.1.1.1.1.1.1.1.1.0 e l);
        }))
        (λ u. rw (no_mark u) (and_right (eqb (s in_use e) 0) _ (no_row u)))
        (either (is_in_use s e))

    key_test : distinct_key s e ≡ true
    key_test =
        ⊎_elim
        (λ u. rw (each_at 64 (is_in_use s) _ sentence.1.1.1.1.1.1.1.1.1.0 e l u, or-true))
        (λ u. rw (no_mark u))
        (either (is_in_use s e))

    position_test : (i : ℕ) → i < 64 → sound_position s e i ≡ true
    position_test i m =
        ⊎_elim
        (λ z. position_none s e i (eqb-true (position_in s e i) 0 z))
        (λ z.
        let t = parts (is_in_use s e) (stand_tests s e i) (each_at 64 (holds s e) (position_stands s e) (below (λ e. of_each 64 (holds s e) (position_stands s e)) 64 sentence.1.1.1.1.1.1.1.1.1.1.0 e l) i m (rw z)) in
        position_stocked s e i (record {
          used = eqb-true (s in_use e) 1 t.0;
          amount = λ q. clash (below (no_position s e) 64 (each_at 64 (nothing s) (λ e. all (no_position s e) 64 0) sentence.1.1.1.1.1.1.1.1.1.1.1.0 e l (eq-eqb (s exposure_amounts e) 0 q)) i m) z;
          known = t.1.0;
          whole = eqb-true (position_in s e i % s lots i) 0 t.1.1;
        }))
        (either (eqb (position_in s e i) 0))

  pub sound_facts : Sound s
  sound_facts = record {
    head = head_test;
    security = security_test;
    participant = participant_test;
    basket = basket_test;
    spare = below (λ k. eqb (s spares k) 0) (rows_of spares) blanks.1.1.1.1.1.1;
    row = row_test;
    number = number_test;
    exposure = exposure_test;
    key = key_test;
    position = λ e i l m. position_test e l i m;
    held = λ p i l m. leb-true (holding s p i) 500000000 (below _ 64 (below _ 32 sentence.1.1.1.1.1.1.1.1.1.1.1.1 p l) i m);
  }

-- what a sound profile has
profile_parts : (mode list partial : ℕ) → sound_profile mode list partial ≡ true
    → (leb mode 3 ≡ true) × (leb partial 1 ≡ true) × (not (eqb mode 0) ≡ false → (eqb mode 0 && (eqb list 0 && eqb partial 0)) ≡ true)
profile_parts mode list partial h =
    ⊎_elim
    (λ (e : eqb mode 0 ≡ true).
    let z = split (eqb list 0 ∷ eqb partial 0 ∷ []) (rw e at h) in
    (rw (eqb-true mode 0 e), rw (eqb-true partial 0 z.1), λ u. rw (e, z.0, z.1)))
    (λ (e : eqb mode 0 ≡ false).
    let t = split (leb mode 3 ∷ leb partial 1 ∷ []) (rw e at h) in
    (t.0, t.1, λ u. clash (rw e) u))
    (either (eqb mode 0))

closing_open : (s : State) (i : ℕ) → Kind s i → open_or_none (s closings i) ≡ true
closing_open s i (fop e x) = x.closing
closing_open s i (return e x) = rw x.closing

kind_range : (s : State) (i : ℕ) → Kind s i → (fop_in_range s i || return_in_range s i) ≡ true
kind_range s i (fop e x) =
    let t : fop_in_range s i ≡ true = whole (is_fop s i) (fop_tests s i) (eq-eqb (s request_kinds i) 6 e, (lt-ltb (s baskets_or_exposures i) 16 x.basket_below, facts_between (s tolerance 0) 1000000000000 (s amounts i) (x.amount_low, x.amount_high))) in
    rw t
kind_range s i (return e x) =
    let t : return_in_range s i ≡ true = whole (is_return s i) (return_tests s i) (eq-eqb (s request_kinds i) 7 e, (lt-ltb (s baskets_or_exposures i) 64 x.exposure_below, facts_between 1 1000000000000 (s amounts i) (x.amount_low, x.amount_high))) in
    rw (t, or-true)

parties_known_lem : (s : State) (g t : ℕ) → Parties s g t → parties_set_up s g t ≡ true
parties_known_lem s g t p = whole (participant_set_up s g) (party_tests s g t) (p.giver_known, (p.taker_known, rw (ne_eqb g t p.differ)))

-- back to the sentence
module _ (s : State) (f : Sound s) where
  -- a row that holds something is used
  used_by : (i g : ℕ) → i < 256 → request_kinds ≤ g → g < request_kinds + 14 → (s g i ≡ 0 → ⊥) → is_used s i ≡ true
  used_by i g l a b n = ⊎_elim (λ u. u) (λ u. absurd (n (unused_blank_lem s i (f.row i l) u g a b))) (either (is_used s i))

  fields_of : (i : ℕ) → i < 256 → is_used s i ≡ true → Fields s i
  fields_of i l u = used_fields s i (f.row i l) u

  paired_used : (i : ℕ) → i < 256 → is_paired s i ≡ true → is_used s i ≡ true
  paired_used i l v = used_by i partners l (omega arith) (omega arith) (eqb-false (s partners i) 0 (not-true (eqb (s partners i) 0) v))

  pair_of : (i : ℕ) → i < 256 → is_paired s i ≡ true → Paired s i
  pair_of i l v = used_paired s i (f.row i l) (paired_used i l v) v

  kind_of : (i k : ℕ) → i < 256 → s request_kinds i ≡ suc k → Kind s i
  kind_of i k l e = (fields_of i l (used_by i request_kinds l (omega arith) (omega arith) (λ z. omega arith))).kind

  fop_at : (i : ℕ) → i < 256 → is_fop s i ≡ true → Fop s i
  fop_at i l e = go (kind_of i 5 l q)
    where
      q : s request_kinds i ≡ 6
      q = eqb-true (s request_kinds i) 6 e

      go : Kind s i → Fop s i
      go (fop k x) = x
      go (return k x) = absurd (omega (arith, q))

  return_at : (i : ℕ) → i < 256 → is_return s i ≡ true → Return s i
  return_at i l e = go (kind_of i 6 l q)
    where
      q : s request_kinds i ≡ 7
      q = eqb-true (s request_kinds i) 7 e

      go : Kind s i → Return s i
      go (fop k x) = absurd (omega (arith, q))
      go (return k x) = x

  security_parts : (i : ℕ) → i < 64 → security_set_up s i ≡ true → Each (leb (s lots i) 1000000 ∷ between 1 3000000 (s prices i) ∷ leb (s haircuts i) 9999 ∷ open_day (s quote_days i) ∷ [])
  security_parts i l u = split (leb (s lots i) 1000000 ∷ between 1 3000000 (s prices i) ∷ leb (s haircuts i) 9999 ∷ open_day (s quote_days i) ∷ []) (rw u at (f.security i l))

  exposure_of_lem : (e : ℕ) → e < 64 → is_in_use s e ≡ true → Exposure s e
  exposure_of_lem e l u = used_exposure s e (f.exposure e l) (eqb-true (s in_use e) 1 u)

  participant_parts : (p : ℕ) → p < 32 → Each (sound_profile (s modes p) (s lists p) (s partials p) ∷ sound_profile (s waiting_modes p) (s waiting_lists p) (s waiting_partials p) ∷ (participant_set_up s p || eqb (s waiting_modes p) 0) ∷ [])
  participant_parts p l = split (sound_profile (s modes p) (s lists p) (s partials p) ∷ sound_profile (s waiting_modes p) (s waiting_lists p) (s waiting_partials p) ∷ (participant_set_up s p || eqb (s waiting_modes p) 0) ∷ []) (f.participant p l)

  days_open_lem : days_open s ≡ true
  days_open_lem =
      let quotes = each_of 64 (security_set_up s) _ (λ i l u. (security_parts i l u).1.1.1) in
      let requests = each_of 256 (is_used s) _ (λ i l u. join (open_day (s settlements i) ∷ open_or_none (s closings i) ∷ []) ((fields_of i l u).settlement, closing_open s i (fields_of i l u).kind)) in
      let exposures = each_of 64 (is_in_use s) _ (λ e l u. (exposure_of_lem e l u).closing) in
      whole (open_day (s today 0)) (day_tests s) ((head_facts s f.head).open_today, (quotes, (requests, exposures)))

  price_range : (i : ℕ) → i < 64 → security_set_up s i ≡ true → price_in_range s i ≡ true
  price_range i l u =
      let t = security_parts i l u in
      let some : 1 ≤ s lots i = omega (arith, eqb-false (s lots i) 0 (not-true (eqb (s lots i) 0) u)) in
      whole (between 1 1000000 (s lots i)) (price_tests s i) (facts_between 1 1000000 (s lots i) (some, leb-true (s lots i) 1000000 t.0), (t.1.0, t.1.1.0))

  participant_range : (p : ℕ) → p < 32 → participant_in_range s p ≡ true
  participant_range p l =
      let t = participant_parts p l in
      let a = profile_parts (s modes p) (s lists p) (s partials p) t.0 in
      let b = profile_parts (s waiting_modes p) (s waiting_lists p) (s waiting_partials p) t.1.0 in
      whole (leb (s modes p) 3) (participant_tests s p) (a.0, (a.1, (b.0, b.1)))

  age_range : (b : ℕ) → b < 16 → age_in_range s b ≡ true
  age_range b l =
      ⊎_elim
      (λ u. rw u at (f.basket b l))
      (λ u. rw (eqb-true (s greatest_ages b) 0 (rw u at (f.basket b l))))
      (either (basket_set_up s b))

  request_range : (i : ℕ) → i < 256 → is_used s i ≡ true → request_in_range s i ≡ true
  request_range i l u =
      let x = fields_of i l u in
      whole (leb (s sides i) 1) (request_tests s i) (le-leb (s sides i) 1 x.side, (lt-ltb (s givers i) 32 x.parties.giver_below, (lt-ltb (s takers i) 32 x.parties.taker_below, kind_range s i x.kind)))

  exposure_range : (e : ℕ) → e < 64 → is_in_use s e ≡ true → exposure_in_range s e ≡ true
  exposure_range e l u =
      let x = exposure_of_lem e l u in
      whole (ltb (s exposure_givers e) 32) (exposure_tests s e) (lt-ltb (s exposure_givers e) 32 x.parties.giver_below, (lt-ltb (s exposure_takers e) 32 x.parties.taker_below, lt-ltb (s exposure_baskets e) 16 x.basket_below))

  fields_in_range_lem : fields_in_range s ≡ true
  fields_in_range_lem =
      let h = head_facts s f.head in
      let head = facts_between 1 100000000 (s tolerance 0) (h.tolerance_low, h.tolerance_high) in
      let securities = each_of 64 (security_set_up s) (price_in_range s) price_range in
      let participants = all_of (participant_in_range s) 32 0 (λ p g l. participant_range p l) in
      let baskets = all_of (age_in_range s) 16 0 (λ b g l. age_range b l) in
      let requests = each_of 256 (is_used s) (request_in_range s) request_range in
      let exposures = each_of 64 (is_in_use s) (exposure_in_range s) exposure_range in
      whole (between 1 100000000 (s tolerance 0)) (range_tests s) (head, (securities, (participants, (baskets, (requests, exposures)))))

  numbers_distinct_lem : numbers_distinct s ≡ true
  numbers_distinct_lem = each_of 256 (is_used s) _ (λ i l u.
      let other : all (differs s i) i 0 ≡ true = rw (not-true (eqb (s numbers i) 0) u) at (f.number i l) in
      join (ltb (s numbers i) (s next_number 0) ∷ all (differs s i) i 0 ∷ []) (lt-ltb (s numbers i) (s next_number 0) (fields_of i l u).number_below, other))

  pairs_agree_lem : pairs_agree s ≡ true
  pairs_agree_lem = each_of 256 (is_paired s) _ (λ i l v.
      let j = partner_of s i in
      let p = (pair_of i l v).pair in
      let e : (g : ℕ) → s g i ≡ s g j → same s g i j ≡ true = λ g. eq-eqb (s g i) (s g j) in
      let terms = join (alike_tests s i j) (e request_kinds p.kind, (e givers p.giver, (e takers p.taker, (e baskets_or_exposures p.object, (e amounts p.amount, (e settlements p.settlement, (e closings p.closing, (e settled_amounts p.settled, e ends p.end)))))))) in
      whole (ltb j 256) (pair_tests s i j) (lt-ltb j 256 p.partner_below, (eq-eqb (s partners j) (i + 1) p.named, (eq-eqb (s sides i + s sides j) 1 p.opposite, terms))))

  -- a row that is not used holds nothing
  none : (i g : ℕ) → i < 256 → request_kinds ≤ g → g < request_kinds + 14 → is_used s i ≡ false → s g i ≡ 0
  none i g l a b u = unused_blank_lem s i (f.row i l) u g a b

  settled_fits_lem : (i : ℕ) → i < 256 → settled_fits s i ≡ true
  settled_fits_lem i l = join (leb (s settled_amounts i) (s amounts i) ∷ (is_paired s i || eqb (s settled_amounts i) 0) ∷ []) (
    ⊎_elim
        (λ u. le-leb (s settled_amounts i) (s amounts i) (fields_of i l u).settled)
        (λ u. let z : s settled_amounts i ≡ 0 = none i settled_amounts l (omega arith) (omega arith) u in le-leb (s settled_amounts i) (s amounts i) (omega arith))
        (either (is_used s i)),
    ⊎_elim
        (λ v. rw v)
        (λ v. rw (eq-eqb (s settled_amounts i) 0 (⊎_elim (λ u. (used_unpaired s i (f.row i l) u v).settled) (λ u. none i settled_amounts l (omega arith) (omega arith) u) (either (is_used s i))), or-true))
        (either (is_paired s i)),
  )

  named_set_up_lem : named_set_up s ≡ true
  named_set_up_lem =
      let requests = each_of 256 (is_used s) (parties_known s) (λ i l u. parties_known_lem s (s givers i) (s takers i) (fields_of i l u).parties) in
      let fops = each_of 256 (is_fop s) _ (λ i l e. (fop_at i l e).basket_known) in
      let exposures = each_of 64 (is_in_use s) _ (λ e l u.
      let x = exposure_of_lem e l u in
      join (parties_set_up s (s exposure_givers e) (s exposure_takers e) ∷ basket_set_up s (s exposure_baskets e) ∷ []) (parties_known_lem s (s exposure_givers e) (s exposure_takers e) x.parties, x.basket_known)) in
      whole (of_each 256 (is_used s) (parties_known s)) (named_tests s) (requests, (fops, exposures))

  pairs_belong : fop_pairs_belong s ≡ true
  pairs_belong = each_of 256 (is_fop_pair s) _ (λ i l q.
      let t = split (is_fop s i ∷ is_paired s i ∷ []) q in
      ⊎_elim
      (λ r. absurd (omega (arith, eqb-true (s request_kinds i) 7 r, eqb-true (s request_kinds i) 6 t.0)))
      (λ m. lt-ltb (exposure_of_fop s i) 64 m)
      (pair_of i l t.1).belongs)

  returns_name_lem : returns_name s ≡ true
  returns_name_lem = each_of 256 (is_return s) _ (λ i l e.
      let o = s baskets_or_exposures i in
      let x = return_at i l e in
      join (is_in_use s o ∷ eqb (s exposure_givers o) (s givers i) ∷ eqb (s exposure_takers o) (s takers i) ∷ [])
      (eq-eqb (s in_use o) 1 x.exposure_used, (eq-eqb (s exposure_givers o) (s givers i) x.giver, eq-eqb (s exposure_takers o) (s takers i) x.taker)))

  exposures_within_lem : exposures_within s ≡ true
  exposures_within_lem = all_of _ 64 0 (λ e g l. le-leb (s exposure_amounts e) 10000000000000 (⊎_elim
      (λ z. let q : s exposure_amounts e ≡ 0 = (no_exposure s e (f.exposure e l) z).amount in omega arith)
      (λ u. (used_exposure s e (f.exposure e l) u).amount)
      (used_or_not s e (f.exposure e l))))

  keys_distinct_lem : keys_distinct s ≡ true
  keys_distinct_lem = each_of 64 (is_in_use s) _ (λ e l u. rw (eqb-true (s in_use e) 1 u) at (f.key e l))

  positions_stand_lem : positions_stand s ≡ true
  positions_stand_lem = all_of (λ e. of_each 64 (holds s e) (position_stands s e)) 64 0 (λ e g l. each_of 64 (holds s e) (position_stands s e) (λ i m n. ⊎_elim
      (λ z. clash n (rw z))
      (λ k. whole (is_in_use s e) (stand_tests s e i) (eq-eqb (s in_use e) 1 k.used, (k.known, eq-eqb (position_in s e i % s lots i) 0 k.whole)))
      (position_facts s e i (f.position e i l m))))

  positions_cover : zero_has_no_position s ≡ true
  positions_cover = each_of 64 (nothing s) (λ e. all (no_position s e) 64 0) (λ e l z. all_of (no_position s e) 64 0 (λ i g m. ⊎_elim
      (λ q. eq-eqb (position_in s e i) 0 q)
      (λ k. absurd (k.amount (eqb-true (s exposure_amounts e) 0 z)))
      (position_facts s e i (f.position e i l m))))

  holdings_within_lem : holdings_within s ≡ true
  holdings_within_lem = all_of _ 32 0 (λ p g l. all_of _ 64 0 (λ i k m. le-leb (holding s p i) 500000000 (f.held p i l m)))

  -- and to the layout's
  waiting_known : of_each 32 (change_waits s) (participant_set_up s) ≡ true
  waiting_known = each_of 32 (change_waits s) (participant_set_up s) (λ p l w. ⊎_elim
      (λ u. u)
      (λ z. clash z (not-true (eqb (s waiting_modes p) 0) w))
      (or_cases (participant_set_up s p) (eqb (s waiting_modes p) 0) (participant_parts p l).1.1))

  unused_blanks : unused_blank s ≡ true
  unused_blanks =
      let securities = unless_of 64 (security_set_up s) (row_blank s security_tables) (λ i l u. rw (not-false (eqb (s lots i) 0) u) (rw u at (f.security i l))) in
      let profiles = unless_of 32 (participant_set_up s) (row_blank s profile_tables) (λ p l u. (profile_parts (s modes p) (s lists p) (s partials p) (participant_parts p l).0).2 u) in
      let waiting = unless_of 32 (change_waits s) (row_blank s waiting_tables) (λ p l u. (profile_parts (s waiting_modes p) (s waiting_lists p) (s waiting_partials p) (participant_parts p l).1.0).2 u) in
      let baskets = unless_of 16 (basket_set_up s) (row_blank s basket_tables) (λ b l u. rw (not-false (eqb (s maps b) 0) u) (rw u at (f.basket b l))) in
      let requests = unless_of 256 (is_used s) (row_blank s request_tables) (λ i l u. rw u at (f.row i l)) in
      let exposures = unless_of 64 (is_in_use s) (row_blank s exposure_tables) (λ e l u. ⊎_elim
      (λ z. cond_then (row_blank s exposure_tables e) _ (eqb (s in_use e) 0) (eq-eqb (s in_use e) 0 z) (f.exposure e l))
      (λ o. clash (eq-eqb (s in_use e) 1 o) u)
      (used_or_not s e (f.exposure e l))) in
      let rest = all_of (λ k. eqb (s spares k) 0) (rows_of spares) 0 (λ k g l. f.spare k l) in
      whole (blank_unless s 64 (security_set_up s) security_tables) (blank_tests s) (securities, (profiles, (waiting, (baskets, (requests, (exposures, rest))))))

  mark_fits_lem : (i : ℕ) → i < 256 → mark_fits s i ≡ true
  mark_fits_lem i l = whole (leb (s pair_partials i) 1) (leb (s cancels i) 1 ∷ leb (s ends i) 1 ∷ []) (⊎_elim
      (λ u. let x = fields_of i l u in (le-leb (s pair_partials i) 1 x.partial, (le-leb (s cancels i) 1 x.cancel, le-leb (s ends i) 1 x.end)))
      (λ u. (rw (none i pair_partials l (omega arith) (omega arith) u), (rw (none i cancels l (omega arith) (omega arith) u), rw (none i ends l (omega arith) (omega arith) u))))
      (either (is_used s i)))

  partial_fits_lem : (i : ℕ) → i < 256 → partial_fits s i ≡ true
  partial_fits_lem i l =
      ⊎_elim
      (λ v. rw v (eq-eqb (s pair_partials i) (s pair_partials (partner_of s i)) (pair_of i l v).pair.partial))
      (λ v. rw v (eq-eqb (s pair_partials i) 0 (⊎_elim (λ u. (used_unpaired s i (f.row i l) u v).partial) (λ u. none i pair_partials l (omega arith) (omega arith) u) (either (is_used s i)))))
      (either (is_paired s i))

  marks_agree_lem : marks_agree s ≡ true
  marks_agree_lem = whole (of_each 256 (is_return s) (no_closing s)) (mark_tests s) (
    each_of 256 (is_return s) (no_closing s) (λ i l e. eq-eqb (s closings i) 0 (return_at i l e).closing),
    (all_of (mark_fits s) 256 0 (λ i g l. mark_fits_lem i l), all_of (partial_fits s) 256 0 (λ i g l. partial_fits_lem i l)),
  )

  as_written : sound_as_written s ≡ true
  as_written = whole (days_open s) (sentence_tests s)
      (days_open_lem, (fields_in_range_lem, (numbers_distinct_lem, (pairs_agree_lem, (all_of (settled_fits s) 256 0 (λ i g l. settled_fits_lem i l), (named_set_up_lem, (pairs_belong, (returns_name_lem, (exposures_within_lem, (keys_distinct_lem, (positions_stand_lem, (positions_cover, holdings_within_lem))))))))))))

  by_layout : sound_layout s ≡ true
  by_layout = whole (between 1 1000000000 (s next_number 0)) (layout_tests s)
      (facts_between 1 1000000000 (s next_number 0) ((head_facts s f.head).next_low, (head_facts s f.head).next_high), (waiting_known, (unused_blanks, marks_agree_lem)))

  pub facts_sound : sound s ≡ true
  unfolding sound
  facts_sound = join (sound_as_written s ∷ sound_layout s ∷ []) (as_written, by_layout)

-- the code's tests, row by row, say the same as the sentence
pub by_row : (s : State) → sound_by_row s ≡ sound s
by_row s = agree (λ h. facts_sound s (by_row_facts s h)) (λ h. facts_by_row s (sound_facts s h))
