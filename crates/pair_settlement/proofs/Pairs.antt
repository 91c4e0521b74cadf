-- What a pair of a good book gives: its rows, its exposure, and room for what settles.
-- Assumes nothing.
use mathlib.Core.Path.{◌≡◌, refl}
use mathlib.Core.Bool.{true}
use mathlib.Core.List.{List}
use Prim.Native.Nat.{ℕ, ◌≤◌, ◌<◌}
use native.Mathlib.Omega.{arith}
use lib.Dec.{eqb}
use borrow.Author.Tests.{eqb-false, not-true}
use Rattle.book.specs.Layout.{request_kinds, partners, in_use, exposure_amounts}
use Rattle.book.specs.State.{State, put, columns_of}
use Rattle.rules.specs.Requests.{is_paired, rest_of}
use Rattle.rules.specs.Settlement.{both_settled}
use Rattle.facts.specs.Good.{Good}
use Rattle.facts.proofs.Rows.{Fields, Kind, fop, return, Paired, used_fields, used_paired, used_exposure}
use Rattle.settlement_laws.proofs.Pairs.{amount_le}
use Rattle.facts.proofs.Stock.{columns_same}
use Rattle.bonds.specs.Moves.{Pledging, Freeable}
use Rattle.settlement_laws.specs.Ways.{PairOf}
use Rattle.pair_settlement.specs.Pairs.{Settleable}

-- what the numbers of a pair and of an exposure leave as it is
module _ (s : State) (i x d y : ℕ) where
  abbrev pub noted : State
  noted = put (both_settled s i x) exposure_amounts d y

  pub columns_noted : columns_of noted ≡ columns_of s
  columns_noted = columns_same s noted (λ j. refl) (λ j. refl) (λ j. refl) (λ j. refl)

  pub freeable_noted : {e : ℕ} → Freeable s e → Freeable noted e
  freeable_noted f = record { below = f.below; giver = f.giver; bounded = rw columns_noted f.bounded; within = f.within; together = f.together }

  pub pledging_noted : {e : ℕ} {by : List ℕ} → Pledging s e by → Pledging noted e by
  pledging_noted p = record { below = p.below; giver = p.giver; enough = record { enough = p.enough.enough }; room = record { room = p.room.room } }

module _ {s : State} (g : Good s) where
  -- a row of a kind is a FOP or a return
  pub kind_of : {i : ℕ} → Kind s i → (s request_kinds i ≡ 7 → ⊥) → s request_kinds i ≡ 6
  kind_of (fop k f) n = k
  kind_of (return k r) n = absurd (n k)

  module _ {kind i : ℕ} (p : PairOf s kind i) where
    pub pair_fields : Fields s i
    pair_fields = used_fields s i (g.facts.row i p.below) p.used

    pub pair_paired : Paired s i
    pair_paired = used_paired s i (g.facts.row i p.below) p.used p.paired

    pub rest_le : rest_of s i ≤ 1000000000000
    rest_le = omega (arith, amount_le pair_fields.kind)

    names_partner : is_paired s i ≡ true → 0 < s partners i
    names_partner h = let n = eqb-false (s partners i) 0 (not-true (eqb (s partners i) 0) h) in omega arith

    pub settleable : (x : ℕ) → x ≤ rest_of s i → Settleable s i x
    settleable x l =
        let f = pair_fields in
        let r = pair_paired in
        record {
          below = p.below;
          paired = names_partner p.paired;
          partner = r.pair.partner_below;
          own = omega (arith, f.settled, amount_le f.kind);
          other = omega (arith, f.settled, amount_le f.kind, r.pair.settled);
        }

  pub exposure_le : (e : ℕ) → e < 64 → s in_use e ≡ 1 → s exposure_amounts e ≤ 10000000000000
  exposure_le e l u = (used_exposure s e (g.facts.exposure e l) u).amount
