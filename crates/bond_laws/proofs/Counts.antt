-- Pick and Free take whole lots: each nominal is a count of lots of its security, within the account or the position.
-- Assumes nothing.
use mathlib.Core.Path.{◌≡◌, refl, sym, ◌∙◌}
use mathlib.Core.Bool.{Bool}
use mathlib.Core.List.{List}
use mathlib.Core.Logic.{⊎_elim}
use Prim.Native.Nat.{ℕ, zero, suc, ◌+◌, ◌*◌, ◌-◌, ◌/◌, ◌≤◌, ◌<◌}
use native.Mathlib.Decide.{ℕ_discrete}
use native.Mathlib.Nat.{le_refl, mul-zero, zero-mul}
use native.Mathlib.Omega.{arith}
use lib.Dec.{leb-zero}
use lib.ListN.{length, get_or, set, replicate, length-set, length-replicate, get_or-replicate}
use lib.Seq.{get_or-set_same, get_or-set_other}
use Rattle.laws.specs.Search.{largest}
use Rattle.laws.proofs.Cases.{either}
use Rattle.laws.proofs.Largest.{largest_le, largest_most}
use Rattle.securities.specs.Security.{security_at}
use Rattle.parcels.specs.Lots.{lots_to_pick, parcel_to_pick}
use Rattle.parcels.proofs.Parcels.{lots_le, picked_within}
use Rattle.picking.specs.Free.{enough, lots_to_free, whole, free_from, freed_above}
use Rattle.picking.specs.Pick.{parcel_from, picked_below}
use Rattle.picking.proofs.Frees.{freeing}
use Rattle.picking.proofs.Picks.{from_eligible, from_other}

-- a count of whole lots, within a nominal
pub record Counted (lot most x : ℕ) : Type 0 where
  pub count : ℕ
  pub lots : x ≡ count * lot
  pub within : x ≤ most

no_lots : (lot most : ℕ) → Counted lot most 0
no_lots lot most = record { count = 0; lots = sym (zero-mul lot); within = omega arith }

-- as many lots as a nominal has, or fewer
some_lots : (lot most k : ℕ) → (0 < lot → k * lot ≤ most) → Counted lot most (k * lot)
some_lots lot most k h = record {
  count = k;
  lots = refl;
  within = elim (ℕ_discrete lot 0) [ yes z ↦ rw (z, mul-zero) (omega arith) | no z ↦ h (omega arith) ];
}

-- a list with one nominal put in
module _ (lot most : ℕ → ℕ) where
  put_counted : (given : List ℕ) (k x : ℕ) → k < length given → Counted (lot k) (most k) x → ((i : ℕ) → i < 64 → Counted (lot i) (most i) (get_or given i 0))
      → (i : ℕ) → i < 64 → Counted (lot i) (most i) (get_or (set given k x) i 0)
  put_counted given k x h c others i l =
      elim (ℕ_discrete i k) [
        | yes q ↦ rw (q, get_or-set_same given k x 0 h) c
        | no q ↦ rw (get_or-set_other given k i x 0 q) (others i l)
      ]

  none_counted : (i : ℕ) → i < 64 → Counted (lot i) (most i) (get_or (replicate 64 0) i 0)
  none_counted i l = rw (get_or-replicate {A = ℕ} 64 i 0 0 l) (no_lots (lot i) (most i))

module _ (columns : List ℕ) where
  abbrev lot_of : ℕ → ℕ
  lot_of i = (security_at columns i).lot

-- Pick
module _ (columns account : List ℕ) (test : ℕ → Bool) where
  parcel_counted : (i remains : ℕ) → Counted (lot_of columns i) (get_or account i 0) (parcel_from columns account test i remains).nominal
  unfolding parcel_to_pick
  parcel_counted i remains =
      let security = security_at columns i in
      ⊎_elim
      (λ e. rw (from_eligible columns account test i remains e)
      (some_lots security.lot (get_or account i 0) (lots_to_pick security (get_or account i 0) remains) (picked_within security (get_or account i 0) remains)))
      (λ e. rw (from_other columns account test i remains e) (no_lots security.lot (get_or account i 0)))
      (either (test i))

  module _ (amount : ℕ) where
    pub picked_length : (n : ℕ) → length (picked_below columns account test amount n).nominals ≡ 64
    unfolding picked_below
    picked_length zero = length-replicate {A = ℕ} 64 0
    picked_length (suc n) = simp length-set (picked_length n)

    pub picked_counted : (n : ℕ) → n ≤ 64 → (i : ℕ) → i < 64 → Counted (lot_of columns i) (get_or account i 0) (get_or (picked_below columns account test amount n).nominals i 0)
    unfolding picked_below
    picked_counted zero h = none_counted (lot_of columns) (λ i. get_or account i 0)
    picked_counted (suc n) h =
        let o = picked_below columns account test amount n in
        let p = parcel_from columns account test n (amount - o.value) in
        put_counted (lot_of columns) (λ i. get_or account i 0) o.nominals n p.nominal (omega (arith, picked_length n)) (parcel_counted n (amount - o.value)) (picked_counted n (omega arith))

-- Free
module _ (columns position : List ℕ) where
  module _ (exposure : ℕ) where
    freed_lots : (given : List ℕ) (i : ℕ) → Counted (lot_of columns i) (get_or position i 0) (lots_to_free columns position exposure given i * lot_of columns i)
    unfolding lots_to_free
    freed_lots given i =
        let test = enough columns position exposure given i in
        let most = get_or position i 0 / lot_of columns i in
        some_lots (lot_of columns i) (get_or position i 0) (largest test most) (λ p. lots_le p (largest_le test most))

    pub freed_counted : (n : ℕ) → n ≤ 64 → (i : ℕ) → i < 64 → Counted (lot_of columns i) (get_or position i 0) (get_or (freed_above columns position exposure n).nominals i 0)
    unfolding freed_above free_from whole
    freed_counted zero h = none_counted (lot_of columns) (λ i. get_or position i 0)
    freed_counted (suc n) h =
        let given = (freed_above columns position exposure n).nominals in
        put_counted (lot_of columns) (λ i. get_or position i 0) given (63 - n) (lots_to_free columns position exposure given (63 - n) * lot_of columns (63 - n))
        (omega (arith, (freeing columns position exposure n (omega arith)).all)) (freed_lots given (63 - n)) (freed_counted n (omega arith))

  -- down to 0, every whole lot goes
  all_lots : (given : List ℕ) (i : ℕ) → lots_to_free columns position 0 given i ≡ get_or position i 0 / lot_of columns i
  unfolding lots_to_free
  all_lots given i =
      let test = enough columns position 0 given i in
      let most = get_or position i 0 / lot_of columns i in
      omega (arith, largest_le test most, largest_most test most most (le_refl most) (rw leb-zero))

  pub freed_all : (n i : ℕ) → n ≤ 64 → i < 64 → 64 ≤ i + n → get_or (freed_above columns position 0 n).nominals i 0 ≡ get_or position i 0 / lot_of columns i * lot_of columns i
  unfolding freed_above free_from
  freed_all zero i h l m = absurd (omega arith)
  freed_all (suc n) i h l m =
      let given = (freed_above columns position 0 n).nominals in
      let long : 63 - n < length given = omega (arith, (freeing columns position 0 n (omega arith)).all) in
      let x = lots_to_free columns position 0 given (63 - n) * lot_of columns (63 - n) in
      elim (ℕ_discrete i (63 - n)) [
        | yes q ↦ rw (q, get_or-set_same given (63 - n) x 0 long, all_lots given (63 - n))
        | no q ↦ get_or-set_other given (63 - n) i x 0 q ∙ freed_all n i (omega arith) l (omega arith)
      ]
