-- Counts of lots of one security: one division finds them.
-- Assumes nothing.
use mathlib.Core.Path.{◌≡◌, refl, ap, ◌∙◌}
use mathlib.Core.Bool.{Bool, false}
use mathlib.Core.Logic.{◌⊎◌, inl, inr, ⊎_elim}
use Prim.Native.Nat.{ℕ, zero, suc, ◌+◌, ◌*◌, ◌-◌, ◌/◌, ◌≤◌, ◌<◌, min}
use native.Mathlib.Nat.{le_refl, zero-mul, mul-zero, one-mul, mul-le-mul_right, sub-zero, le_of_suc-le-suc, lt_of_not-le, le-div_iff_mul-le, div-eq_of_lt}
use native.Mathlib.Omega.{arith}
use lib.Dec.{leb, leb-zero}
use borrow.Author.Tests.{leb-true, leb-false, le-leb, lt-leb}
use Rattle.laws.specs.Search.{largest}
use Rattle.laws.proofs.Cases.{either}
use Rattle.laws.proofs.Largest.{largest_unique, largest_le, largest_holds}
use Rattle.securities.specs.declared.Security.{Security}
use Rattle.valuation.specs.declared.Pricing.{Pricing}
use Rattle.valuation.specs.Value.{value}
use Rattle.valuation.specs.Inverse.{nominal_within}
use Rattle.valuation.proofs.Inverse.{worth_within, within_worth}
use Rattle.valuation.proofs.Laws.{value_zero, value_mono}
use Rattle.parcels.specs.Lots.{no_parcel, lots_to_pick, parcel_to_pick}
use Rattle.parcels.specs.Spare.{lots_to_spare, parcel_to_spare, nominal_to_keep}

-- a count within the whole lots of a nominal is a nominal within it, and the other way round
pub lots_le : {n lot k : ℕ} → 0 < lot → k ≤ n / lot → k * lot ≤ n
lots_le p h = (le-div_iff_mul-le p).0 h

pub le_lots : {n lot k : ℕ} → 0 < lot → k * lot ≤ n → k ≤ n / lot
le_lots p h = (le-div_iff_mul-le p).1 h

no_lots : (t : ℕ → Bool) {n lot : ℕ} → n < lot → largest t (n / lot) ≡ 0
unfolding largest
no_lots t {n} {lot} h = ap (largest t) (div-eq_of_lt h)

module _ (s : Security) (account remains : ℕ) where
  abbrev affordable : ℕ → Bool
  affordable k = leb (value s.pricing (k * s.lot)) remains

  -- what is picked is within the account, and worth no more than what remains
  pub picked_within : 0 < s.lot → lots_to_pick s account remains * s.lot ≤ account
  unfolding lots_to_pick
  picked_within p = lots_le p (largest_le affordable (account / s.lot))

  pub picked_worth : (parcel_to_pick s account remains).value ≤ remains
  unfolding parcel_to_pick lots_to_pick
  picked_worth = leb-true _ remains (largest_holds affordable (account / s.lot) (rw (zero-mul, value_zero, leb-zero)))

  module _ (p : 0 < s.lot) (a : account ≤ 500000000) where
    abbrev most : ℕ
    most = min account (nominal_within s.pricing remains)

    above : (j : ℕ) → most / s.lot < j → j ≤ account / s.lot → affordable j ≡ false
    above j l h = ⊎_elim
        (λ e.
        let in_account = lots_le p h in
        let in-value = within_worth s.pricing remains (j * s.lot) (omega arith) (leb-true (value s.pricing (j * s.lot)) remains e) in
        let low : j ≤ most / s.lot = le_lots p (omega arith) in
        absurd (omega arith))
        (λ e. e)
        (either (affordable j))

    pub lots_by_division : most / s.lot ≡ lots_to_pick s account remains
    unfolding lots_to_pick
    lots_by_division =
        let fits : most / s.lot * s.lot ≤ most = lots_le p (le_refl (most / s.lot)) in
        largest_unique affordable (account / s.lot) (most / s.lot)
        (le_lots p (omega arith))
        (inr (le-leb (value s.pricing (most / s.lot * s.lot)) remains (worth_within s.pricing remains (most / s.lot * s.lot) (omega arith))))
        above

  -- a security that is not set up, and an account with no whole lot
  pub pick_none : s.lot ≡ 0 → no_parcel ≡ parcel_to_pick s account remains
  unfolding parcel_to_pick
  pick_none e = rw (e, mul-zero, value_zero)

  pub pick_too_few : account < s.lot → no_parcel ≡ parcel_to_pick s account remains
  unfolding parcel_to_pick lots_to_pick
  pick_too_few h = rw (no_lots affordable h, zero-mul, value_zero)

  -- one lot is worth more than what remains
  pub pick_too_dear : {v : ℕ} → v ≡ value s.pricing s.lot → remains < v → no_parcel ≡ parcel_to_pick s account remains
  unfolding parcel_to_pick lots_to_pick
  pick_too_dear e l =
      let none : 0 ≡ largest affordable (account / s.lot) =
      largest_unique affordable (account / s.lot) 0 (omega arith) (inl refl)
      (λ j h m.
      let more : s.lot ≤ j * s.lot = rw one-mul at (mul-le-mul_right {m = 1} {n = j} s.lot h) in
      lt-leb (value s.pricing (j * s.lot)) remains (omega (arith, e, value_mono s.pricing more))) in
      rw (← none, zero-mul, value_zero)

  pub pick_most : {w m n v : ℕ} → (s.lot ≡ 0 → ⊥) → account ≤ 500000000 → w ≡ nominal_within s.pricing remains → m ≡ min account w
      → n ≡ m / s.lot * s.lot → v ≡ value s.pricing n → record { nominal = n; value = v } ≡ parcel_to_pick s account remains
  unfolding parcel_to_pick
  pick_most z a e f h g = let l = lots_by_division (omega arith) a in rw (g, h, f, e, l)

  -- all whole lots of the account are worth no more than what remains
  pub pick_all : {n v : ℕ} → (s.lot ≡ 0 → ⊥) → n ≡ account / s.lot * s.lot → v ≡ value s.pricing n → v ≤ remains → record { nominal = n; value = v } ≡ parcel_to_pick s account remains
  unfolding parcel_to_pick lots_to_pick
  pick_all z e g h =
      let fits : value s.pricing (account / s.lot * s.lot) ≤ remains = rw (← e, ← g) h in
      let all : account / s.lot ≡ largest affordable (account / s.lot) =
      largest_unique affordable (account / s.lot) (account / s.lot) (le_refl (account / s.lot))
      (inr (le-leb (value s.pricing (account / s.lot * s.lot)) remains fits)) (λ j l m. absurd (omega arith)) in
      rw (g, e, ← all)

  -- a parcel without a nominal has no value
  pub pick_empty : (parcel_to_pick s account remains).nominal ≡ 0 → parcel_to_pick s account remains ≡ no_parcel
  unfolding parcel_to_pick
  pick_empty e = rw (e, value_zero)

-- the least nominal to keep is just that
module _ (others exposure : ℕ) (p : Pricing) where
  keep_none : exposure ≤ others → nominal_to_keep others exposure p ≡ 0
  unfolding nominal_to_keep
  keep_none h = rw (le-leb exposure others h)

  keep_some : others < exposure → nominal_to_keep others exposure p ≡ nominal_within p (exposure - others - 1) + 1
  unfolding nominal_to_keep
  keep_some h = rw (lt-leb exposure others h)

  pub keep_enough : (n : ℕ) → n ≤ 500000000 → nominal_to_keep others exposure p ≤ n → exposure ≤ others + value p n
  keep_enough n b h = ⊎_elim
      (λ e. omega (arith, leb-true exposure others e))
      (λ e.
      let short = leb-false exposure others e in
      let least = keep_some short in
      le_of_suc-le-suc (lt_of_not-le (λ (v : others + value p n < exposure). omega (arith, within_worth p (exposure - others - 1) n b (omega arith)))))
      (either (leb exposure others))

  pub enough_keep : (n : ℕ) → exposure ≤ others + value p n → nominal_to_keep others exposure p ≤ n
  enough_keep n h = ⊎_elim
      (λ e. omega (arith, keep_none (leb-true exposure others e)))
      (λ e.
      let short = leb-false exposure others e in
      let least = keep_some short in
      le_of_suc-le-suc (lt_of_not-le (λ (l : n < nominal_to_keep others exposure p). omega (arith, worth_within p (exposure - others - 1) n (omega arith)))))
      (either (leb exposure others))

zero_or_pos : (n : ℕ) → (n ≡ 0) ⊎ (0 < n)
zero_or_pos zero = inl refl
zero_or_pos (suc n) = inr (omega arith)

module _ (s : Security) (n others exposure : ℕ) where
  abbrev spared : ℕ → Bool
  spared k = leb exposure (others + value s.pricing (n - k * s.lot))

  abbrev keep : ℕ
  keep = nominal_to_keep others exposure s.pricing

  -- a nominal below the least to keep spares nothing
  pub spare_none : n < keep → n ≤ 500000000 → 0 ≡ lots_to_spare s n others exposure
  unfolding lots_to_spare
  spare_none l b =
      largest_unique spared (n / s.lot) 0 (omega arith) (inl refl)
      (λ j h m. ⊎_elim
      (λ e. absurd (omega (arith, enough_keep others exposure s.pricing (n - j * s.lot) (leb-true exposure (others + value s.pricing (n - j * s.lot)) e))))
      (λ e. e)
      (either (spared j)))

  -- else what is above it goes, in whole lots
  pub spare_some : 0 < s.lot → keep ≤ n → n ≤ 500000000 → (n - keep) / s.lot ≡ lots_to_spare s n others exposure
  unfolding lots_to_spare
  spare_some p h b =
      let k = (n - keep) / s.lot in
      let fits : k * s.lot ≤ n - keep = lots_le p (le_refl k) in
      largest_unique spared (n / s.lot) k
      (le_lots p (omega arith))
      (inr (le-leb exposure (others + value s.pricing (n - k * s.lot)) (keep_enough others exposure s.pricing (n - k * s.lot) (omega arith) (omega arith))))
      (λ j l m. ⊎_elim
      (λ e.
      let held = lots_le p m in
      let stays = enough_keep others exposure s.pricing (n - j * s.lot) (leb-true exposure (others + value s.pricing (n - j * s.lot)) e) in
      let low : j ≤ k = le_lots p (omega arith) in
      absurd (omega arith))
      (λ e. e)
      (either (spared j)))

  -- what goes is within the nominal
  pub spared_within : lots_to_spare s n others exposure * s.lot ≤ n
  unfolding lots_to_spare
  spared_within = ⊎_elim
      (λ (z : s.lot ≡ 0). rw (z, mul-zero) (omega arith))
      (λ (p : 0 < s.lot). lots_le p (largest_le spared (n / s.lot)))
      (zero_or_pos s.lot)

  -- a parcel of nothing loses nothing
  nothing_spared : lots_to_spare s n others exposure * s.lot ≡ 0 → no_parcel ≡ parcel_to_spare s n others exposure
  unfolding parcel_to_spare
  nothing_spared e = let z : value s.pricing n - value s.pricing n ≡ 0 = omega arith in rw (e, sub-zero, z)

  pub free_none : s.lot ≡ 0 → no_parcel ≡ parcel_to_spare s n others exposure
  free_none e = nothing_spared (rw (e, mul-zero))

  pub free_too_few : n < s.lot → no_parcel ≡ parcel_to_spare s n others exposure
  unfolding lots_to_spare
  free_too_few h = nothing_spared (rw (no_lots spared h, zero-mul))

-- the same, as the code has it: the others are what the position is worth less what is held
module _ (s : Security) (n worth exposure : ℕ) {held keep : ℕ} where
  pub free_kept : n ≤ 500000000 → held ≡ value s.pricing n → keep ≡ nominal_to_keep (worth - held) exposure s.pricing → n < keep
      → no_parcel ≡ parcel_to_spare s n (worth - value s.pricing n) exposure
  free_kept b e f l =
      let others = worth - value s.pricing n in
      let g : keep ≡ nominal_to_keep others exposure s.pricing = f ∙ ap (λ (h : ℕ). nominal_to_keep (worth - h) exposure s.pricing) e in
      nothing_spared s n others exposure (rw (← spare_none s n others exposure (omega arith) b, zero-mul))

  -- nothing goes where what need not be kept is no whole lot
  pub free_no_lot : {given : ℕ} → (s.lot ≡ 0 → ⊥) → n ≤ 500000000 → held ≡ value s.pricing n → keep ≡ nominal_to_keep (worth - held) exposure s.pricing
      → keep ≤ n → given ≡ (n - keep) / s.lot * s.lot → given ≡ 0 → no_parcel ≡ parcel_to_spare s n (worth - value s.pricing n) exposure
  free_no_lot z b e f l d h =
      let others = worth - value s.pricing n in
      let g : keep ≡ nominal_to_keep others exposure s.pricing = f ∙ ap (λ (x : ℕ). nominal_to_keep (worth - x) exposure s.pricing) e in
      let k : (n - nominal_to_keep others exposure s.pricing) / s.lot ≡ lots_to_spare s n others exposure = spare_some s n others exposure (omega arith) (omega arith) b in
      nothing_spared s n others exposure (rw (← k, ← g, ← d) h)

  pub free_most : {left given : ℕ} → (s.lot ≡ 0 → ⊥) → n ≤ 500000000 → held ≡ value s.pricing n → keep ≡ nominal_to_keep (worth - held) exposure s.pricing
      → keep ≤ n → given ≡ (n - keep) / s.lot * s.lot → left ≡ value s.pricing (n - given)
      → record { nominal = given; value = held - left } ≡ parcel_to_spare s n (worth - value s.pricing n) exposure
  unfolding parcel_to_spare
  free_most z b e f l d v =
      let others = worth - value s.pricing n in
      let g : keep ≡ nominal_to_keep others exposure s.pricing = f ∙ ap (λ (h : ℕ). nominal_to_keep (worth - h) exposure s.pricing) e in
      let k : (n - nominal_to_keep others exposure s.pricing) / s.lot ≡ lots_to_spare s n others exposure = spare_some s n others exposure (omega arith) (omega arith) b in
      rw (v, d, e, g, k)
