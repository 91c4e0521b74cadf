-- A recall on arrays: the account and the position with the nominal moved are those of the state with it given back, so that one Pick
-- on them finds the substitutes, and their sum the new value.
-- Assumes nothing.
use mathlib.Core.Path.{◌≡◌, sym, ap, ◌∙◌}
use mathlib.Core.List.{List}
use Prim.Native.Nat.{ℕ, ◌+◌, ◌*◌, ◌-◌, ◌<◌}
use native.Mathlib.Nat.{le_refl, add-zero}
use native.Mathlib.Decide.{ℕ_discrete}
use native.Mathlib.Omega.{arith}
use lib.ListN.{get_or, set, replicate, length-set, length-replicate, get_or-replicate}
use lib.Seq.{ext_get_or, get_or-set_same, get_or-set_other}
use Rattle.laws.specs.Filled.{filled}
use Rattle.laws.proofs.Filled.{filled_length, filled_at}
use Rattle.baskets.specs.Basket.{eligible}
use Rattle.picking.specs.Pick.{picked, but_not}
use Rattle.securities.specs.Position.{worth, nominals_of}
use Rattle.book.specs.Layout.{today, lots, prices, haircuts, quote_days, exposure_givers, exposure_amounts, accounts, positions}
use Rattle.book.specs.State.{State, columns_of}
use Rattle.bond_laws.proofs.Moving.{pledge_position, give_back_account, give_back_position}
use Rattle.facts.proofs.Filled.{filled_same}
use Rattle.facts.proofs.Stock.{account_at, position_at, columns_same}
use Rattle.rules.specs.Marking.{one_nominal, recalled, substitutes, substituted}
use Rattle.rules.specs.Fields.{field}
use Rattle.rules.specs.Stock.{account_of, position_of, basket_of, value_of, pledge}
use Rattle.marking_laws.specs.Recalled.{added, account_after, position_left}
use Rattle.marking_laws.proofs.Moved.{Bonds, own_pledge, own_give_back}

-- the securities are read from other tables than the bonds
pub columns_kept : {s t : State} → Bonds s t → columns_of t ≡ columns_of s
columns_kept {s} {t} b =
    let at : (f i : ℕ) → f < accounts → t f i ≡ s f i = λ f i l. b.others f i (λ q. omega arith) (λ q. omega arith) in
    columns_same s t (λ i. at lots i (omega arith)) (λ i. at prices i (omega arith)) (λ i. at haircuts i (omega arith)) (λ i. at quote_days i (omega arith))

-- one nominal among 64
pub one_same : (i n : ℕ) → i < 64 → get_or (one_nominal i n) i 0 ≡ n
one_same i n l = get_or-set_same (replicate 64 0) i n 0 (simp length-replicate l)

pub one_other : (i n j : ℕ) → j < 64 → (j ≡ i → ⊥) → get_or (one_nominal i n) j 0 ≡ 0
one_other i n j l d = get_or-set_other (replicate 64 0) i j n 0 d ∙ get_or-replicate 64 j 0 0 l

-- a row in which one number is changed
row_one : (f g : ℕ → ℕ) (i x : ℕ) → i < 64 → g i ≡ x → ((j : ℕ) → j < 64 → (j ≡ i → ⊥) → g j ≡ f j) → filled g 64 64 ≡ set (filled f 64 64) i x
row_one f g i x l here others =
    ext_get_or 0 (filled g 64 64) (set (filled f 64 64) i x) (filled_length g 64 64 ∙ sym (simp length-set (filled_length f 64 64)))
    (λ j m.
    let b : j < 64 = omega (arith, filled_length g 64 64) in
    filled_at g 64 64 j (le_refl 64) b ∙ elim (ℕ_discrete j i) [
      | yes q ↦ rw q (here ∙ sym (get_or-set_same (filled f 64 64) i x 0 (omega (arith, filled_length f 64 64))))
      | no q ↦ others j b q ∙ sym (filled_at f 64 64 j (le_refl 64) b) ∙ sym (get_or-set_other (filled f 64 64) i j x 0 q)
    ])

module _ (s : State) (r : List ℕ) (below : field r 2 < 64) where
  abbrev exposure : ℕ
  exposure = field r 1

  abbrev giver : ℕ
  giver = s exposure_givers exposure

  abbrev one : List ℕ
  one = one_nominal (field r 2) (field r 3)

  -- the account and the position of the state with the nominal given back
  pub account_after_lem : account_of (recalled s r) giver ≡ account_after s r
  account_after_lem =
      row_one (λ i. s accounts (64 * giver + i)) (λ i. recalled s r accounts (64 * giver + i)) (field r 2) _ below
      (give_back_account s exposure one (field r 2) below ∙ rw (one_same (field r 2) (field r 3) below, account_at s giver (field r 2) below))
      (λ j l d. give_back_account s exposure one j l ∙ rw (one_other (field r 2) (field r 3) j l d) (add-zero (s accounts (64 * giver + j))))

  pub position_left_lem : position_of (recalled s r) exposure ≡ position_left s r
  position_left_lem =
      row_one (λ i. s positions (64 * exposure + i)) (λ i. recalled s r positions (64 * exposure + i)) (field r 2) _ below
      (give_back_position s exposure one (field r 2) below ∙ rw (one_same (field r 2) (field r 3) below, position_at s exposure (field r 2) below))
      (λ j l d. give_back_position s exposure one j l ∙ omega (arith, one_other (field r 2) (field r 3) j l d))

  -- what is missing then, and the one Pick that finds the substitutes
  abbrev pub missing_then : ℕ
  missing_then = s exposure_amounts exposure - worth (columns_of s) (nominals_of (position_left s r))

  pub substitutes_on_arrays : substitutes s r
      ≡ picked (columns_of s) (account_after s r) (but_not (field r 2) (eligible (basket_of s exposure) (s today 0) (columns_of s))) missing_then
  unfolding substitutes
  substitutes_on_arrays =
      let t = recalled s r in
      ap (λ (c : List ℕ). picked c (account_of t giver) (but_not (field r 2) (eligible (basket_of s exposure) (s today 0) c)) (s exposure_amounts exposure - worth c (nominals_of (position_of t exposure))))
      (columns_kept (own_give_back s exposure one).bonds)
      ∙ rw (account_after_lem, position_left_lem)

  -- the position after: what is left with the substitutes
  pub position_after : position_of (substituted s r) exposure ≡ added (position_left s r) (substitutes s r).nominals
  unfolding substituted
  position_after =
      let t = recalled s r in
      let by = (substitutes s r).nominals in
      filled_same (λ i. pledge t exposure by positions (64 * exposure + i)) (λ i. get_or (position_left s r) i 0 + get_or by i 0) 64 64
      (λ i l. pledge_position t exposure by i l ∙ ap (λ (x : ℕ). x + get_or by i 0) (sym (position_at t exposure i l) ∙ ap (λ (l : List ℕ). get_or l i 0) position_left_lem))

  pub columns_after : columns_of (substituted s r) ≡ columns_of s
  unfolding substituted
  columns_after = columns_kept (own_pledge (recalled s r) exposure (substitutes s r).nominals).bonds ∙ columns_kept (own_give_back s exposure one).bonds

  -- and its value
  pub value_after : value_of (substituted s r) exposure ≡ worth (columns_of s) (nominals_of (added (position_left s r) (substitutes s r).nominals))
  value_after = rw (columns_after, position_after)
