-- What soundness is worth to Pick and Free: securities, accounts and positions within their bounds.
-- Assumes nothing.
use mathlib.Core.Path.{◌≡◌, refl, ◌∙◌}
use mathlib.Core.Bool.{true}
use mathlib.Core.List.{[], ◌∷◌}
use mathlib.Core.Logic.{⊎_elim}
use Prim.Native.Nat.{ℕ, zero, suc, ◌+◌, ◌*◌, ◌/◌, ◌%◌, ◌≤◌, ◌<◌}
use native.Mathlib.Nat.{zero-add}
use native.Mathlib.Omega.{arith}
use lib.Dec.{eqb, leb}
use lib.ListN.{get_or}
use borrow.Author.Tests.{leb-true, eqb-true, eq-eqb, ne_eqb, not-false}
use Rattle.laws.proofs.Cases.{either}
use Rattle.laws.proofs.Filled.{filled_at}
use Rattle.laws.proofs.Sum.{sum_part}
use Rattle.calendar.specs.Target.{open_day}
use Rattle.calendar.proofs.OpenDays.{open_within}
use Rattle.securities.specs.Security.{security_at}
use Rattle.securities.specs.Bounds.{AllInBounds, Within}
use Rattle.securities.specs.Position.{nominals_of}
use Rattle.book.specs.Layout.{today, security_tables, lots, prices, haircuts, quote_days, greatest_ages, in_use, exposure_givers, accounts, positions}
use Rattle.book.specs.State.{State, columns_of}
use Rattle.laws.specs.Search.{between}
use Rattle.rules.specs.Stock.{security_set_up, basket_set_up, account_of, position_of, holding, position_from}
use Rattle.facts.specs.Good.{Sound}
use Rattle.facts.proofs.Filled.{filled_same}
use Rattle.facts.proofs.Rows.{head_facts, used_exposure, position_facts}
use Rattle.facts.proofs.Truth.{split, between_facts}

-- the columns of a state, number by number
module _ (s : State) where
  column_at : (q i : ℕ) → q < 4 → i < 64 → get_or (columns_of s) (64 * q + i) 0 ≡ s (get_or security_tables q 0) i
  column_at q i h l =
      let div : (64 * q + i) / 64 ≡ q = omega arith in
      let place : (64 * q + i) % 64 ≡ i = omega arith in
      filled_at (λ k. s (get_or security_tables (k / 64) 0) (k % 64)) 256 256 (64 * q + i) (omega arith) (omega arith) ∙ rw (div, place)

  pub lot_at : (i : ℕ) → i < 64 → (security_at (columns_of s) i).lot ≡ s lots i
  lot_at i l = rw (zero-add i) at (column_at 0 i (omega arith) l)

  pub price_at : (i : ℕ) → i < 64 → (security_at (columns_of s) i).pricing.price ≡ s prices i
  price_at i l = column_at 1 i (omega arith) l

  pub haircut_at : (i : ℕ) → i < 64 → (security_at (columns_of s) i).pricing.haircut ≡ s haircuts i
  haircut_at i l = column_at 2 i (omega arith) l

  -- a state with the same securities
  module _ (t : State) (lot : (i : ℕ) → t lots i ≡ s lots i) (price : (i : ℕ) → t prices i ≡ s prices i) (haircut : (i : ℕ) → t haircuts i ≡ s haircuts i) (quote : (i : ℕ) → t quote_days i ≡ s quote_days i) where
    each : (q i : ℕ) → q < 4 → t (get_or security_tables q 0) i ≡ s (get_or security_tables q 0) i
    each zero i l = lot i
    each (suc zero) i l = price i
    each (suc (suc zero)) i l = haircut i
    each (suc (suc (suc zero))) i l = quote i
    each (suc (suc (suc (suc q)))) i l = absurd (omega arith)

    pub columns_same : columns_of t ≡ columns_of s
    columns_same = filled_same (λ k. t (get_or security_tables (k / 64) 0) (k % 64)) (λ k. s (get_or security_tables (k / 64) 0) (k % 64)) 256 256 (λ k l. each (k / 64) (k % 64) (omega arith))

  -- the account and the position, number by number
  pub account_at : (p i : ℕ) → i < 64 → get_or (account_of s p) i 0 ≡ s accounts (64 * p + i)
  account_at p i l = filled_at (λ i. s accounts (64 * p + i)) 64 64 i (omega arith) l

  pub position_at : (e i : ℕ) → i < 64 → get_or (position_of s e) i 0 ≡ s positions (64 * e + i)
  position_at e i l = filled_at (λ i. s positions (64 * e + i)) 64 64 i (omega arith) l

  module _ (f : Sound s) where
    -- a security's numbers, set up or not
    pub lot_le : (i : ℕ) → i < 64 → s lots i ≤ 1000000
    lot_le i l =
        ⊎_elim
        (λ u. let t = split (leb (s lots i) 1000000 ∷ between 1 3000000 (s prices i) ∷ leb (s haircuts i) 9999 ∷ open_day (s quote_days i) ∷ []) (rw u at (f.security i l)) in leb-true (s lots i) 1000000 t.0)
        (λ u. omega (arith, eqb-true (s lots i) 0 (not-false (eqb (s lots i) 0) u)))
        (either (security_set_up s i))

    pub price_le : (i : ℕ) → i < 64 → s prices i ≤ 3000000
    price_le i l =
        ⊎_elim
        (λ u. let t = split (leb (s lots i) 1000000 ∷ between 1 3000000 (s prices i) ∷ leb (s haircuts i) 9999 ∷ open_day (s quote_days i) ∷ []) (rw u at (f.security i l)) in (between_facts 1 3000000 (s prices i) t.1.0).1)
        (λ u. let t = split (eqb (s prices i) 0 ∷ eqb (s haircuts i) 0 ∷ eqb (s quote_days i) 0 ∷ []) (rw u at (f.security i l)) in omega (arith, eqb-true (s prices i) 0 t.0))
        (either (security_set_up s i))

    pub priced : (i : ℕ) → i < 64 → 0 < s lots i → 1 ≤ s prices i
    priced i l m =
        let u : security_set_up s i ≡ true = rw (ne_eqb (s lots i) 0 (λ z. omega arith)) in
        let t = split (leb (s lots i) 1000000 ∷ between 1 3000000 (s prices i) ∷ leb (s haircuts i) 9999 ∷ open_day (s quote_days i) ∷ []) (rw u at (f.security i l)) in
        (between_facts 1 3000000 (s prices i) t.1.0).0

    pub haircut_le : (i : ℕ) → i < 64 → s haircuts i ≤ 9999
    haircut_le i l =
        ⊎_elim
        (λ u. let t = split (leb (s lots i) 1000000 ∷ between 1 3000000 (s prices i) ∷ leb (s haircuts i) 9999 ∷ open_day (s quote_days i) ∷ []) (rw u at (f.security i l)) in leb-true (s haircuts i) 9999 t.1.1.0)
        (λ u. let t = split (eqb (s prices i) 0 ∷ eqb (s haircuts i) 0 ∷ eqb (s quote_days i) 0 ∷ []) (rw u at (f.security i l)) in omega (arith, eqb-true (s haircuts i) 0 t.1.0))
        (either (security_set_up s i))

    -- what Pick, Free and a value count on
    pub columns_bounded : AllInBounds (columns_of s)
    columns_bounded = record {
      in_bounds = λ i l. record {
        lot_le = rw (lot_at i l) (lot_le i l);
        bounded = record { price_le = rw (price_at i l) (price_le i l); haircut_le = rw (haircut_at i l) (haircut_le i l) };
        priced = λ m. rw (price_at i l) (priced i l (rw (lot_at i l) at m));
      };
    }

    pub today_le : s today 0 ≤ 146096
    today_le = open_within (s today 0) (head_facts s f.head).open_today

    pub age_le : (b : ℕ) → b < 16 → s greatest_ages b ≤ 255
    age_le b l =
        ⊎_elim
        (λ u. leb-true (s greatest_ages b) 255 (rw u at (f.basket b l)))
        (λ u. omega (arith, eqb-true (s greatest_ages b) 0 (rw u at (f.basket b l))))
        (either (basket_set_up s b))

    -- "account plus positions .. at most 500,000,000": each of them is
    pub account_le : (p i : ℕ) → p < 32 → i < 64 → s accounts (64 * p + i) ≤ 500000000
    unfolding holding
    account_le p i h l = omega (arith, f.held p i h l)

    pub position_le : (e i : ℕ) → e < 64 → i < 64 → s positions (64 * e + i) ≤ 500000000
    unfolding holding
    position_le e i h l =
        ⊎_elim
        (λ z. omega arith)
        (λ k.
        let p = s exposure_givers e in
        let g = (used_exposure s e (f.exposure e h) k.used).parties.giver_below in
        let own : position_from s p i e ≡ s positions (64 * e + i) = rw (eq-eqb (s in_use e) 1 k.used, eq-eqb p p refl) in
        omega (arith, f.held p i g l, sum_part (position_from s p i) e 64 h, own))
        (position_facts s e i (f.position e i h l))

    pub account_within : (p : ℕ) → p < 32 → Within (nominals_of (account_of s p))
    account_within p h = record { within = λ i l. rw (account_at p i l) (account_le p i h l) }

    pub position_within : (e : ℕ) → e < 64 → Within (nominals_of (position_of s e))
    position_within e h = record { within = λ i l. rw (position_at e i l) (position_le e i h l) }
