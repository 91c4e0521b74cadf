-- Where bonds may move: what a good book gives.
-- Assumes nothing.
use mathlib.Core.Path.{◌≡◌}
use mathlib.Core.Bool.{Bool}
use mathlib.Core.List.{List}
use Prim.Native.Nat.{ℕ, ◌+◌, ◌*◌, ◌<◌}
use native.Mathlib.Nat.{le_refl}
use native.Mathlib.Omega.{arith}
use Rattle.book.specs.Layout.{in_use, exposure_givers, positions}
use Rattle.book.specs.State.{State}
use Rattle.book.specs.Fits.{Lowerable}
use Rattle.rules.specs.Stock.{position_of, pick_for, free_for}
use Rattle.facts.specs.Good.{Sound, Good}
use Rattle.facts.proofs.Rows.{used_exposure}
use Rattle.facts.proofs.Stock.{columns_bounded, account_within, position_within, position_at}
use Rattle.bond_laws.proofs.Lots.{Pledgeable, Returnable, pick_pledgeable, free_returnable, pledge_lowerable, give_back_lowerable}
use Rattle.bond_laws.proofs.Moving.{pledge_raisable, give_back_raisable}
use Rattle.bonds.specs.Moves.{Pledging, GivingBack, Pickable, Freeable}

-- bonds of a used exposure may move, where they are within the row that they leave
module _ (s : State) (e : ℕ) (by : List ℕ) (f : Sound s) (below : e < 64) (u : s in_use e ≡ 1) where
  giver_of : s exposure_givers e < 32
  giver_of = (used_exposure s e (f.exposure e below) u).parties.giver_below

  pub gives_back : Returnable s e by → GivingBack s e by
  gives_back r =
      let enough = give_back_lowerable r in
      record { below = below; giver = giver_of; enough = enough; room = give_back_raisable s e by below u giver_of f.held enough }

  pub pledges : Pledgeable s e by → Pledging s e by
  pledges p =
      let enough = pledge_lowerable p in
      record { below = below; giver = giver_of; enough = enough; room = pledge_raisable s e by below u giver_of f.held enough }

module _ (s : State) (e : ℕ) where
  -- what Free gives back may move
  pub free_gives_back : (amount : ℕ) → Freeable s e → GivingBack s e (free_for s e amount).nominals
  free_gives_back amount f =
      let r = free_returnable s e amount in
      record {
        below = f.below;
        giver = f.giver;
        enough = give_back_lowerable r;
        room = record { room = λ i l. omega (arith, f.together i l, r.enough i l) };
      }

  -- a used exposure of a good book
  module _ (g : Good s) (l : e < 64) (u : s in_use e ≡ 1) where
    pub good_pickable : Pickable s e
    good_pickable =
        let x = used_exposure s e (g.facts.exposure e l) u in
        record {
          below = l;
          giver = x.parties.giver_below;
          basket = x.basket_below;
          bounded = columns_bounded s g.facts;
          within = account_within s g.facts (s exposure_givers e) x.parties.giver_below;
        }

    pub pick_pledges : (test : ℕ → Bool) (amount : ℕ) → Pledging s e (pick_for s e test amount).nominals
    pick_pledges test amount = pledges s e _ g.facts l u (pick_pledgeable s e test amount)

    pub good_freeable : Freeable s e
    good_freeable =
        let giver = (used_exposure s e (g.facts.exposure e l) u).parties.giver_below in
        let whole : Lowerable s positions (64 * e) (position_of s e) = record { enough = λ i m. rw (position_at s e i m) (le_refl (s positions (64 * e + i))) } in
        record {
          below = l;
          giver = giver;
          bounded = columns_bounded s g.facts;
          within = position_within s g.facts e l;
          together = λ i m. rw (position_at s e i m) at ((give_back_raisable s e (position_of s e) l u giver g.facts.held whole).room i m);
        }
