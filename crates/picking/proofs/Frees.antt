-- Laws of a free: the position's value that the code carries along is the sum over what is left.
-- Assumes nothing.
use mathlib.Core.Path.{◌≡◌, refl, sym, ap, ◌∙◌}
use mathlib.Core.Bool.{Bool, true, false, cond}
use mathlib.Core.List.{List}
use mathlib.Core.Logic.{⊎_elim}
use Prim.Native.Nat.{ℕ, zero, suc, ◌+◌, ◌*◌, ◌-◌, ◌/◌, ◌≤◌, ◌<◌, min}
use native.Mathlib.Nat.{sub-zero, zero-mul}
use native.Mathlib.Numerals.{add-one}
use native.Mathlib.Omega.{arith}
use lib.Dec.{leb, ltb}
use borrow.Author.Tests.{lt-leb, ltb-true}
use lib.ListN.{length, get_or, set, replicate, length-set, length-replicate, get_or-replicate}
use lib.Seq.{get_or-set_same, get_or-set_other, set-get_or}
use Rattle.laws.proofs.Largest.{largest_same, largest_none}
use Rattle.laws.proofs.Cases.{either}
use Rattle.laws.proofs.Sum.{sum_same}
use Rattle.securities.specs.Position.{worth, value_at, nominals_of}
use Rattle.securities.specs.Security.{security_at}
use Rattle.securities.proofs.Positions.{value_part, worth_one}
use Rattle.valuation.specs.Value.{value}
use Rattle.valuation.proofs.Laws.{value_mono}
use Rattle.picking.specs.Free.{remaining, enough, lots_to_free, whole, free_from, freed_above}
use Rattle.picking.specs.FreeSteps.{parcel_back, first_to_free}
use Rattle.parcels.specs.Spare.{lots_to_spare, parcel_to_spare}
use Rattle.picking.specs.declared.Freed.{Freed}
use Rattle.parcels.specs.declared.Parcel.{Parcel}

-- on the way, with the n highest securities done
pub record Freeing (columns position : List ℕ) (n : ℕ) (f : Freed) : Type 0 where
  pub all : length f.nominals ≡ 64
  pub undone : (i : ℕ) → i + n < 64 → get_or f.nominals i 0 ≡ 0
  pub value : f.left ≡ worth columns (remaining columns position f.nominals)
  pub few : f.count ≤ n

module _ (columns position : List ℕ) where
  abbrev nominal : ℕ → ℕ
  nominal i = get_or position i 0

  -- one security, i, of which nothing was given back yet
  module _ (given : List ℕ) (i : ℕ) (below : i < 64) (len : length given ≡ 64) (undone : get_or given i 0 ≡ 0) where
    here : (n : ℕ) → remaining columns position (set given i n) i ≡ nominal i - n
    here n = rw (get_or-set_same given i n 0 (omega arith))

    -- the whole with n of it given back, by its others
    split : (n : ℕ) → worth columns (remaining columns position (set given i n)) + value (security_at columns i).pricing (nominal i)
        ≡ worth columns (remaining columns position given) + value (security_at columns i).pricing (nominal i - n)
    split n =
        let now : remaining columns position given i ≡ nominal i = rw (undone, sub-zero) in
        let change = worth_one columns (remaining columns position (set given i n)) (remaining columns position given) i below
        (λ j d. ap (λ (x : ℕ). nominal j - x) (get_or-set_other given i j n 0 d)) in
        rw (now, here n) at change

    abbrev others : ℕ
    others = worth columns (remaining columns position given) - value (security_at columns i).pricing (nominal i)

    part : value (security_at columns i).pricing (nominal i) ≤ worth columns (remaining columns position given)
    part =
        let now : remaining columns position given i ≡ nominal i = rw (undone, sub-zero) in
        rw now at (value_part columns (remaining columns position given) i below)

    left_is : (n : ℕ) → worth columns (remaining columns position (set given i n)) ≡ others + value (security_at columns i).pricing (nominal i - n)
    left_is n = omega (arith, split n, part)

    -- the lots that the whole can spare are those that the security can spare beside the others
    pub lots_same : (exposure : ℕ) → lots_to_free columns position exposure given i ≡ lots_to_spare (security_at columns i) (nominal i) others exposure
    unfolding lots_to_free lots_to_spare
    lots_same exposure =
        largest_same (enough columns position exposure given i)
        (λ k. leb exposure (others + value (security_at columns i).pricing (nominal i - k * (security_at columns i).lot)))
        (λ k. ap (leb exposure) (left_is (k * (security_at columns i).lot)))
        (nominal i / (security_at columns i).lot)

  module _ (exposure i n : ℕ) (f : Freed) (r : Freeing columns position n f) (last : i + n + 1 ≡ 64) where
    -- what the next step needs
    pub back_part : value (security_at columns i).pricing (nominal i) ≤ f.left
    back_part = rw r.value (part f.nominals i (omega arith) r.all (r.undone i (omega arith)))

    abbrev spare : ℕ
    spare = lots_to_free columns position exposure f.nominals i * (security_at columns i).lot

    abbrev rest : ℕ
    rest = others f.nominals i (omega arith) r.all (r.undone i (omega arith))

    lots : spare ≡ lots_to_spare (security_at columns i) (nominal i) rest exposure * (security_at columns i).lot
    lots = ap (λ (k : ℕ). k * (security_at columns i).lot) (lots_same f.nominals i (omega arith) r.all (r.undone i (omega arith)) exposure)

    module _ {p : Parcel} (e : p ≡ parcel_back columns position i f.left exposure) where
      found : p ≡ parcel_to_spare (security_at columns i) (nominal i) rest exposure
      found = e ∙ ap (λ (w : ℕ). parcel_to_spare (security_at columns i) (nominal i) (w - value (security_at columns i).pricing (nominal i)) exposure) r.value

      nominal_is : p.nominal ≡ spare
      unfolding parcel_to_spare
      nominal_is = ap (λ (q : Parcel). q.nominal) found ∙ sym lots

      loss_is : p.value ≡ value (security_at columns i).pricing (nominal i) - value (security_at columns i).pricing (nominal i - spare)
      unfolding parcel_to_spare
      loss_is = rw lots (ap (λ (q : Parcel). q.value) found)

      -- what is lost is a part of what was left
      pub loss_le : p.value ≤ f.left
      loss_le = omega (arith, loss_is, back_part)

      left_after : f.left - p.value ≡ worth columns (remaining columns position (set f.nominals i spare))
      left_after =
          let less : nominal i - spare ≤ nominal i = omega arith in
          omega (
            arith,
            loss_is,
            back_part,
            r.value,
            value_mono (security_at columns i).pricing less,
            left_is f.nominals i (omega arith) r.all (r.undone i (omega arith)) spare,
          )

      -- the step of the definition, from the parcel that the code finds
      pub step_is : ◌≡◌ {A = Freed} (record { nominals = set f.nominals i p.nominal; left = f.left - p.value; count = f.count + min p.nominal 1 }) (free_from columns position exposure i f)
      unfolding free_from
      step_is = rw (left_after, nominal_is)

    -- and it goes on
    pub step_goes_on : Freeing columns position (n + 1) (free_from columns position exposure i f)
    unfolding free_from
    step_goes_on = record {
      all = simp length-set r.all;
      undone = λ j l. get_or-set_other f.nominals i j spare 0 (λ q. omega arith) ∙ r.undone j (omega arith);
      value = refl;
      few = omega (arith, r.few);
    }

  -- the start
  whole_worth : worth columns (nominals_of position) ≡ worth columns (remaining columns position (replicate 64 0))
  unfolding worth
  whole_worth =
      sum_same (value_at columns (nominals_of position)) (value_at columns (remaining columns position (replicate 64 0))) 64
      (λ i l. ap (value (security_at columns i).pricing) (sym (ap (λ (x : ℕ). nominal i - x) (get_or-replicate 64 i 0 0 l) ∙ sub-zero (nominal i))))

  pub starts : Freeing columns position 0 (whole columns position)
  unfolding whole
  starts = record {
    all = length-replicate {A = ℕ} 64 0;
    undone = λ i l. get_or-replicate 64 i 0 0 (omega arith);
    value = whole_worth;
    few = omega arith;
  }

  -- every step of the definition is on the way
  pub freeing : (exposure n : ℕ) → n ≤ 64 → Freeing columns position n (freed_above columns position exposure n)
  unfolding freed_above
  freeing exposure zero h = starts
  freeing exposure (suc n) h =
      let before = freeing exposure n (omega arith) in
      let next = step_goes_on exposure (63 - n) n (freed_above columns position exposure n) before (omega arith) in
      rw add-one at next

  -- "none if it is below E": a position that is worth less than the exposure gives back nothing
  module _ (exposure : ℕ) (short : worth columns (nominals_of position) < exposure) where
    -- a security spares no lot
    lots_none : (i : ℕ) → i < 64 → lots_to_free columns position exposure (replicate 64 0) i ≡ 0
    unfolding lots_to_free
    lots_none i l =
        let len = length-replicate {A = ℕ} 64 0 in
        let z = get_or-replicate {A = ℕ} 64 i 0 0 l in
        largest_none (enough columns position exposure (replicate 64 0) i)
        (λ k.
        let n = k * (security_at columns i).lot in
        let less : nominal i - n ≤ nominal i = omega arith in
        lt-leb exposure (worth columns (remaining columns position (set (replicate 64 0) i n)))
        (omega (arith, left_is (replicate 64 0) i l len z n, part (replicate 64 0) i l len z, whole_worth, value_mono (security_at columns i).pricing less)))
        (nominal i / (security_at columns i).lot)

    step_none : (i : ℕ) → i < 64 → free_from columns position exposure i (whole columns position) ≡ whole columns position
    unfolding free_from whole
    step_none i l =
        let zeros : List ℕ = replicate 64 0 in
        let same : set zeros i 0 ≡ zeros = ap (set zeros i) (sym (get_or-replicate {A = ℕ} 64 i 0 0 l)) ∙ set-get_or zeros i 0 in
        rw (lots_none i l, zero-mul, same, ← whole_worth)

    pub below_frees_none : (n : ℕ) → n ≤ 64 → freed_above columns position exposure n ≡ whole columns position
    unfolding freed_above
    below_frees_none zero h = refl
    below_frees_none (suc n) h = rw (below_frees_none n (omega arith)) (step_none (63 - n) (omega arith))

  -- where Free begins, it is done with what lies above
  pub begins : (exposure : ℕ) {w i : ℕ} → w ≡ worth columns (nominals_of position) → i ≡ first_to_free w exposure
      → ◌≡◌ {A = Freed} (record { nominals = replicate 64 0; left = w; count = 0 }) (freed_above columns position exposure (64 - i))
  unfolding freed_above whole
  begins exposure {w} {i} e f = ⊎_elim
      (λ t.
      let first : i ≡ 0 = f ∙ ap (λ (b : Bool). cond b 0 64) t in
      let short : worth columns (nominals_of position) < exposure = rw e at (ltb-true w exposure t) in
      rw (first, e) (sym (below_frees_none exposure short 64 (omega arith))))
      (λ t. let first : i ≡ 64 = f ∙ ap (λ (b : Bool). cond b 0 64) t in rw (first, e))
      (either (ltb w exposure))

pub first_le : (w exposure : ℕ) {i : ℕ} → i ≡ first_to_free w exposure → i ≤ 64
first_le w exposure f = rw f (at_most (ltb w exposure))
  where
    at_most : (b : Bool) → cond b 0 64 ≤ 64
    at_most true = omega arith
    at_most false = omega arith
