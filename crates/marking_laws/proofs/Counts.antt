-- The count of a pick or a free is 0 where its nominals are all 0, and only there.
-- Assumes nothing.
use mathlib.Core.Path.{◌≡◌, refl, sym, ap, ◌∙◌}
use mathlib.Core.Bool.{Bool, true, ◌&&◌, and-true, and-false}
use mathlib.Core.List.{List}
use mathlib.Core.Logic.{⊎_elim}
use Prim.Native.Nat.{ℕ, zero, suc, ◌+◌, ◌*◌, ◌-◌, ◌≤◌, ◌<◌, min}
use native.Mathlib.Decide.{ℕ_discrete}
use native.Mathlib.Omega.{arith}
use lib.Dec.{eqb}
use lib.ListN.{length, get_or, set, replicate, length-set, length-replicate, get_or-replicate}
use lib.Seq.{get_or-set_same, get_or-set_other}
use borrow.Author.Tests.{eqb-true, eqb-false, ne_eqb}
use Rattle.laws.specs.Search.{all}
use Rattle.laws.proofs.Cases.{either, clash}
use Rattle.laws.proofs.Least.{all_at, all_same}
use Rattle.picking.specs.Free.{free_from, freed_above, lots_to_free, whole}
use Rattle.picking.specs.Pick.{parcel_from, picked_below}
use Rattle.picking.proofs.Frees.{freeing}
use Rattle.securities.specs.Security.{security_at}
use Rattle.marking_laws.specs.Pass.{is_empty}

-- one nominal more, of a security that had none
module _ (l : List ℕ) (i x : ℕ) (below : i < 64) (len : length l ≡ 64) (none : get_or l i 0 ≡ 0) where
  own : get_or (set l i x) i 0 ≡ x
  own = get_or-set_same l i x 0 (omega arith)

  same_at_lem : x ≡ 0 → (j : ℕ) → get_or (set l i x) j 0 ≡ get_or l j 0
  same_at_lem z j = elim (ℕ_discrete j i) [ yes e ↦ rw e (own ∙ z ∙ sym none) | no n ↦ get_or-set_other l i j x 0 n ]

  with_last : {b : Bool} → eqb x 0 ≡ b → (is_empty l && eqb x 0) ≡ (is_empty l && b)
  with_last e = ap (λ (b : Bool). is_empty l && b) e

  empty_set : is_empty (set l i x) ≡ (is_empty l && eqb x 0)
  empty_set =
      ⊎_elim
      (λ z.
      all_same (λ j. eqb (get_or (set l i x) j 0) 0) (λ j. eqb (get_or l j 0) 0) 64 0 (λ j g h. ap (λ (n : ℕ). eqb n 0) (same_at_lem (eqb-true x 0 z) j))
      ∙ sym (with_last z ∙ and-true (is_empty l)))
      (λ z. ⊎_elim
      (λ e. clash (ap (λ (n : ℕ). eqb n 0) (sym own) ∙ all_at (λ j. eqb (get_or (set l i x) j 0) 0) 64 0 e i (omega arith) below) z)
      (λ e. e ∙ sym (with_last z ∙ and-false (is_empty l)))
      (either (is_empty (set l i x))))
      (either (eqb x 0))

  empty_count : (c : ℕ) → is_empty l ≡ eqb c 0 → is_empty (set l i x) ≡ eqb (c + min x 1) 0
  empty_count c h =
      ⊎_elim
      (λ z.
      let same : c + min x 1 ≡ c = omega (arith, eqb-true x 0 z) in
      empty_set ∙ with_last z ∙ and-true (is_empty l) ∙ h ∙ ap (λ (n : ℕ). eqb n 0) (sym same))
      (λ z.
      let more : c + min x 1 ≡ 0 → ⊥ = λ q. omega (arith, eqb-false x 0 z) in
      empty_set ∙ with_last z ∙ and-false (is_empty l) ∙ sym (ne_eqb (c + min x 1) 0 more))
      (either (eqb x 0))

-- 64 zeros
zeros_empty : is_empty (replicate 64 0) ≡ true
unfolding all
zeros_empty = refl

module _ (columns account : List ℕ) (eligible : ℕ → Bool) (amount : ℕ) where
  abbrev nominals : ℕ → List ℕ
  nominals n = (picked_below columns account eligible amount n).nominals

  picked_long : (n : ℕ) → length (nominals n) ≡ 64
  unfolding picked_below
  picked_long zero = length-replicate {A = ℕ} 64 0
  picked_long (suc n) = simp length-set (picked_long n)

  picked_later : (n j : ℕ) → n ≤ j → j < 64 → get_or (nominals n) j 0 ≡ 0
  unfolding picked_below
  picked_later zero j h l = get_or-replicate 64 j 0 0 l
  picked_later (suc n) j h l = get_or-set_other (nominals n) n j _ 0 (λ q. omega arith) ∙ picked_later n j (omega arith) l

  pub picked_empty : (n : ℕ) → n ≤ 64 → is_empty (nominals n) ≡ eqb (picked_below columns account eligible amount n).count 0
  unfolding picked_below
  picked_empty zero h = zeros_empty
  picked_empty (suc n) h =
      let o = picked_below columns account eligible amount n in
      empty_count o.nominals n (parcel_from columns account eligible n (amount - o.value)).nominal (omega arith) (picked_long n) (picked_later n n (omega arith) (omega arith)) o.count (picked_empty n (omega arith))

module _ (columns position : List ℕ) (exposure : ℕ) where
  pub freed_empty : (n : ℕ) → n ≤ 64 → is_empty (freed_above columns position exposure n).nominals ≡ eqb (freed_above columns position exposure n).count 0
  unfolding freed_above free_from whole
  freed_empty zero h = zeros_empty
  freed_empty (suc n) h =
      let f = freed_above columns position exposure n in
      let r = freeing columns position exposure n (omega arith) in
      empty_count f.nominals (63 - n) (lots_to_free columns position exposure f.nominals (63 - n) * (security_at columns (63 - n)).lot) (omega arith) r.all (r.undone (63 - n) (omega arith)) f.count (freed_empty n (omega arith))
