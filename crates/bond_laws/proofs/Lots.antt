-- Nominals that may go into a position and out of it: whole lots of securities set up. Those of Pick and of Free are.
-- Assumes nothing.
use mathlib.Core.Path.{◌≡◌, ◌∙◌}
use mathlib.Core.Bool.{Bool, true}
use mathlib.Core.List.{List}
use mathlib.Core.Logic.{◌⊎◌, inl, inr, ⊎_elim}
use Prim.Native.Nat.{ℕ, ◌+◌, ◌*◌, ◌-◌, ◌/◌, ◌%◌, ◌≤◌, ◌<◌}
use native.Mathlib.Nat.{mul-zero, mul-mod_left, div-add-mod', mod-eq-zero_of_dvd, dvd_of_mod-eq-zero, dvd-add, dvd-sub, zero-div, zero-mul}
use native.Mathlib.Omega.{arith}
use lib.Dec.{eqb}
use lib.ListN.{length, get_or}
use borrow.Author.Tests.{eqb-true, not-false}
use Rattle.laws.proofs.Cases.{either}
use Rattle.book.specs.Layout.{lots, exposure_givers, accounts, positions}
use Rattle.book.specs.State.{State, columns_of}
use Rattle.book.specs.Fits.{Lowerable}
use Rattle.picking.proofs.Picks.{picked_value}
use Rattle.rules.specs.Stock.{security_set_up, account_of, position_of, pick_for, free_for}
use Rattle.facts.specs.Good.{Sound}
use Rattle.facts.proofs.Rows.{position_facts}
use Rattle.facts.proofs.Stock.{lot_at, account_at, position_at}
use Rattle.bond_laws.proofs.Counts.{picked_length, picked_counted, freed_counted, freed_all}

-- none, or whole lots of a security that is set up
abbrev pub InLots : State → ℕ → ℕ → Type 0
InLots s i x = (x ≡ 0) ⊎ ((security_set_up s i ≡ true) × (x % s lots i ≡ 0))

-- what a pledge may take, and what a giving back may
pub record Pledgeable (s : State) (e : ℕ) (n : List ℕ) : Type 0 where
  pub enough : (i : ℕ) → i < 64 → get_or n i 0 ≤ s accounts (64 * s exposure_givers e + i)
  pub whole : (i : ℕ) → i < 64 → InLots s i (get_or n i 0)

pub record Returnable (s : State) (e : ℕ) (n : List ℕ) : Type 0 where
  pub enough : (i : ℕ) → i < 64 → get_or n i 0 ≤ s positions (64 * e + i)
  pub whole : (i : ℕ) → i < 64 → InLots s i (get_or n i 0)

pub pledge_lowerable : {s : State} {e : ℕ} {n : List ℕ} → Pledgeable s e n → Lowerable s accounts (64 * s exposure_givers e) n
pledge_lowerable h = record { enough = h.enough }

pub give_back_lowerable : {s : State} {e : ℕ} {n : List ℕ} → Returnable s e n → Lowerable s positions (64 * e) n
give_back_lowerable h = record { enough = h.enough }

module _ (s : State) (i : ℕ) where
  -- a count of lots; a sum and a difference of whole lots
  pub lots_counted : (k : ℕ) → InLots s i (k * s lots i)
  lots_counted k =
      ⊎_elim
      (λ u. inr (u, mul-mod_left k (s lots i)))
      (λ u. let z : s lots i ≡ 0 = eqb-true (s lots i) 0 (not-false (eqb (s lots i) 0) u) in inl (rw (z, mul-zero)))
      (either (security_set_up s i))

  pub lots_add : (x y : ℕ) → InLots s i x → InLots s i y → InLots s i (x + y)
  lots_add x y (inl a) (inl b) = inl (omega arith)
  lots_add x y (inl a) (inr b) = let z : x + y ≡ y = omega arith in rw z (inr b)
  lots_add x y (inr a) (inl b) = let z : x + y ≡ x = omega arith in rw z (inr a)
  lots_add x y (inr a) (inr b) = inr (a.0, mod-eq-zero_of_dvd (s lots i) (dvd-add (s lots i) (dvd_of_mod-eq-zero (s lots i) a.1) (dvd_of_mod-eq-zero (s lots i) b.1)))

  pub lots_sub : (x y : ℕ) → InLots s i x → InLots s i y → InLots s i (x - y)
  lots_sub x y (inl a) b = inl (omega arith)
  lots_sub x y (inr a) (inl b) = let z : x - y ≡ x = omega arith in rw z (inr a)
  lots_sub x y (inr a) (inr b) = inr (a.0, mod-eq-zero_of_dvd (s lots i) (dvd-sub (s lots i) (dvd_of_mod-eq-zero (s lots i) a.1) (dvd_of_mod-eq-zero (s lots i) b.1)))

  -- all whole lots of a nominal in whole lots are the nominal
  pub lots_all : (x : ℕ) → InLots s i x → x / s lots i * s lots i ≡ x
  lots_all x (inl z) = rw (z, zero-div, zero-mul)
  lots_all x (inr w) = omega (arith, div-add-mod' x (s lots i), w.1)

-- a sound position is in whole lots
pub position_lots : (s : State) → Sound s → (e i : ℕ) → e < 64 → i < 64 → InLots s i (s positions (64 * e + i))
position_lots s f e i h l = ⊎_elim (λ z. inl z) (λ k. inr (k.known, k.whole)) (position_facts s e i (f.position e i h l))

module _ (s : State) (e : ℕ) where
  module _ (test : ℕ → Bool) (amount : ℕ) where
    -- Pick: within the account, in whole lots, worth no more than the amount
    pub pick_pledgeable : Pledgeable s e (pick_for s e test amount).nominals
    pick_pledgeable =
        let counted = picked_counted (columns_of s) (account_of s (s exposure_givers e)) test amount 64 (omega arith) in
        record {
          enough = λ i l. rw (account_at s (s exposure_givers e) i l) at (counted i l).within;
          whole = λ i l. let c = counted i l in rw (c.lots, lot_at s i l) (lots_counted s i c.count);
        }

    pub pick_value : (pick_for s e test amount).value ≤ amount
    pick_value = picked_value (columns_of s) (account_of s (s exposure_givers e)) test amount 64

    pub pick_length : length (pick_for s e test amount).nominals ≡ 64
    pick_length = picked_length (columns_of s) (account_of s (s exposure_givers e)) test amount 64

  -- Free: within the position, in whole lots
  pub free_returnable : (amount : ℕ) → Returnable s e (free_for s e amount).nominals
  free_returnable amount =
      let counted = freed_counted (columns_of s) (position_of s e) amount 64 (omega arith) in
      record {
        enough = λ i l. rw (position_at s e i l) at (counted i l).within;
        whole = λ i l. let c = counted i l in rw (c.lots, lot_at s i l) (lots_counted s i c.count);
      }

  -- down to 0 a position in whole lots goes entirely
  pub free_all : (i : ℕ) → i < 64 → InLots s i (s positions (64 * e + i)) → get_or (free_for s e 0).nominals i 0 ≡ s positions (64 * e + i)
  free_all i l w = freed_all (columns_of s) (position_of s e) 64 i (omega arith) l (omega arith) ∙ rw (position_at s e i l, lot_at s i l) (lots_all s i (s positions (64 * e + i)) w)
