-- Where more is set up than before and the rest is as it was, requests and exposures stay sound.
-- Assumes nothing.
use mathlib.Core.Path.{◌≡◌, refl}
use mathlib.Core.Bool.{Bool, true, false, not, ◌&&◌, ◌||◌, cond, or-true}
use mathlib.Core.List.{[], ◌∷◌}
use mathlib.Core.Logic.{⊎_elim}
use Prim.Native.Nat.{ℕ}
use lib.Dec.{eqb, leb, ltb}
use Rattle.laws.specs.Search.{all, between}
use Rattle.laws.proofs.Cases.{either}
use Rattle.calendar.specs.Target.{open_day}
use Rattle.book.specs.Layout.{tolerance, next_number, numbers, sides, givers, takers, baskets_or_exposures, amounts, settlements, closings, in_use, exposure_givers, exposure_takers, exposure_baskets, exposure_closings, exposure_amounts}
use Rattle.book.specs.State.{State}
use Rattle.rules.specs.Requests.{is_used, is_fop, is_return, is_paired, open_or_none}
use Rattle.rules.specs.ByRow.{sound_parties, basket_named, sound_fop, sound_return, sound_kind, sound_marks, sound_fields, sound_paired, sound_unpaired, sound_row, sound_exposure}
use Rattle.rules.specs.Stock.{participant_set_up, basket_set_up}
use Rattle.facts.proofs.Truth.{split, join}

-- a state with other tables before the requests'
abbrev pub set_up_by : State → State → State
set_up_by s x f i = cond (ltb f numbers) (x f i) (s f i)

-- what was set up still is, and the rows' bounds are the same
pub record More (s x : State) : Type 0 where
  pub tolerance_same : x tolerance 0 ≡ s tolerance 0
  pub next_same : x next_number 0 ≡ s next_number 0
  pub participants : (p : ℕ) → participant_set_up s p ≡ true → participant_set_up x p ≡ true
  pub baskets : (b : ℕ) → basket_set_up s b ≡ true → basket_set_up x b ≡ true

or_more : (a b c : Bool) → (a ≡ true → b ≡ true) → (a || c) ≡ true → (b || c) ≡ true
or_more true b c f h = rw (f refl)
or_more false b c f h = rw (h, or-true)

module _ (s x : State) (m : More s x) where
  parties_more : (g k : ℕ) → sound_parties s g k ≡ true → sound_parties x g k ≡ true
  parties_more g k h =
      let t = split (ltb g 32 ∷ ltb k 32 ∷ participant_set_up s g ∷ participant_set_up s k ∷ not (eqb g k) ∷ []) h in
      join (ltb g 32 ∷ ltb k 32 ∷ participant_set_up x g ∷ participant_set_up x k ∷ not (eqb g k) ∷ [])
      (t.0, (t.1.0, (m.participants g t.1.1.0, (m.participants k t.1.1.1.0, t.1.1.1.1))))

  basket_more : (b : ℕ) → basket_named s b ≡ true → basket_named x b ≡ true
  basket_more b h =
      let t = split (ltb b 16 ∷ basket_set_up s b ∷ []) h in
      join (ltb b 16 ∷ basket_set_up x b ∷ []) (t.0, m.baskets b t.1)

  module _ (i : ℕ) where
    fop_more : sound_fop s i ≡ true → sound_fop (set_up_by s x) i ≡ true
    fop_more h =
        let t = split (basket_named s (s baskets_or_exposures i) ∷ between (s tolerance 0) 1000000000000 (s amounts i) ∷ open_or_none (s closings i) ∷ []) h in
        join (basket_named x (s baskets_or_exposures i) ∷ between (x tolerance 0) 1000000000000 (s amounts i) ∷ open_or_none (s closings i) ∷ [])
        (basket_more (s baskets_or_exposures i) t.0, (rw m.tolerance_same t.1.0, t.1.1))

    kind_more : sound_kind s i ≡ true → sound_kind (set_up_by s x) i ≡ true
    kind_more h =
        or_more (is_fop s i && sound_fop s i) (is_fop s i && sound_fop (set_up_by s x) i) (is_return s i && sound_return s i)
        (λ f. let t = split (is_fop s i ∷ sound_fop s i ∷ []) f in rw (t.0, fop_more t.1))
        h

    fields_more : sound_fields s i ≡ true → sound_fields (set_up_by s x) i ≡ true
    fields_more h =
        let t = split (ltb (s numbers i) (s next_number 0) ∷ leb (s sides i) 1 ∷ sound_parties s (s givers i) (s takers i) ∷ sound_kind s i ∷ open_day (s settlements i) ∷ sound_marks s i ∷ []) h in
        join (ltb (s numbers i) (x next_number 0) ∷ leb (s sides i) 1 ∷ sound_parties x (s givers i) (s takers i) ∷ sound_kind (set_up_by s x) i ∷ open_day (s settlements i) ∷ sound_marks s i ∷ [])
        (rw m.next_same t.0, (t.1.0, (parties_more (s givers i) (s takers i) t.1.1.0, (kind_more t.1.1.1.0, t.1.1.1.1))))

    pub row_more : sound_row s i ≡ true → sound_row (set_up_by s x) i ≡ true
    unfolding all
    row_more h =
        ⊎_elim
        (λ u.
        let t = split (sound_fields s i ∷ cond (is_paired s i) (sound_paired s i) (sound_unpaired s i) ∷ []) (rw u at h) in
        rw u (join (sound_fields (set_up_by s x) i ∷ cond (is_paired s i) (sound_paired s i) (sound_unpaired s i) ∷ []) (fields_more t.0, t.1)))
        (λ u. rw u (rw u at h))
        (either (is_used s i))

  pub exposure_more : (e : ℕ) → sound_exposure s e ≡ true → sound_exposure (set_up_by s x) e ≡ true
  unfolding all
  exposure_more e h =
      ⊎_elim
      (λ u. rw u (rw u at h))
      (λ u.
      let t = split (eqb (s in_use e) 1 ∷ sound_parties s (s exposure_givers e) (s exposure_takers e) ∷ basket_named s (s exposure_baskets e) ∷ open_or_none (s exposure_closings e) ∷ leb (s exposure_amounts e) 10000000000000 ∷ []) (rw u at h) in
      rw u (join (eqb (s in_use e) 1 ∷ sound_parties x (s exposure_givers e) (s exposure_takers e) ∷ basket_named x (s exposure_baskets e) ∷ open_or_none (s exposure_closings e) ∷ leb (s exposure_amounts e) 10000000000000 ∷ [])
      (t.0, (parties_more (s exposure_givers e) (s exposure_takers e) t.1.0, (basket_more (s exposure_baskets e) t.1.1.0, t.1.1.1)))))
      (either (eqb (s in_use e) 0))
