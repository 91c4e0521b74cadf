-- A step that writes into one or two request rows and the next number: what stays, and that the numbers fit their bytes.
-- Assumes nothing.
use mathlib.Core.Path.{◌≡◌, refl, sym, ◌∙◌}
use mathlib.Core.Bool.{Bool, true, false}
use mathlib.Core.List.{List, []}
use mathlib.Core.Logic.{◌⊎◌, ⊎_elim}
use Prim.Native.Nat.{ℕ, ◌^◌, ◌≤◌, ◌<◌}
use native.Mathlib.Decide.{ℕ_discrete}
use native.Mathlib.Omega.{arith}
use lib.Dec.{eqb}
use Rattle.laws.proofs.Cases.{or_right}
use Rattle.book.specs.Layout.{next_number, numbers, request_kinds, sides, givers, takers, baskets_or_exposures, amounts, settlements, closings, references, settled_amounts, partners, pair_partials, cancels, ends, rows_of, width_of}
use Rattle.book.specs.State.{State, put}
use Rattle.book.specs.Fits.{Fits}
use Rattle.book.proofs.Images.{put_apart, put_cases, put_fits}
use Rattle.book.proofs.Places.{row_of}
use Rattle.rules.specs.Requesting.{with_row}
use Rattle.rules.specs.Fields.{giver_in, taker_in, basket_or_exposure_in, amount_in, settlement_in, closing_in, reference_in}
use Rattle.rules.specs.Requests.{partner_of}
use Rattle.rules.specs.ByRow.{sound_row}
use Rattle.facts.proofs.Keeps.{Keeps}
use Rattle.facts.specs.Good.{Good}
use Rattle.request_laws.proofs.Covering.{Covers, Distinct, is_row_table, is_touched, tables_differ, leaving, rows_cover, rows_keep}
use Rattle.request_laws.proofs.Entries.{KindIn, fop_in, return_in, RequestIn}
use Rattle.request_laws.proofs.Staying.{SameRow, same_row, partner_paired}

-- the state t is s but for the rows i and j of the tables that pass a test
pub record Writes (test : ℕ → Bool) (s t : State) (i j : ℕ) : Type 0 where
  pub apart : (f l : ℕ) → test f ≡ false → t f l ≡ s f l
  pub other : (f l : ℕ) → (l ≡ i → ⊥) → (l ≡ j → ⊥) → t f l ≡ s f l
  pub fits : Fits t

pub unwritten : {test : ℕ → Bool} {s : State} (i j : ℕ) → Fits s → Writes test s s i j
unwritten i j fits = record { apart = λ f l h. refl; other = λ f l a b. refl; fits = fits }

-- one number more
pub write : {test : ℕ → Bool} {s t : State} {i j : ℕ} (f l x : ℕ) → test f ≡ true → (l ≡ i) ⊎ (l ≡ j) → l < rows_of f → x < 256 ^ width_of f
    → Writes test s t i j → Writes test s (put t f l x) i j
write {test} {s} {t} f l x h at row small c = record {
  apart = λ g k r. put_apart t f l x g k (λ e. tables_differ test f g h r (sym e)) ∙ c.apart g k r;
  other = λ g k a b. put_cases t f l x (λ (y : ℕ). y ≡ s g k) g k (λ e q. absurd (⊎_elim (λ z. a (q ∙ z)) (λ z. b (q ∙ z)) at)) (λ n. c.other g k a b);
  fits = put_fits t f l x c.fits (row_of f l row) row small;
}

-- the state t is s but for the request rows i and j and the next number
pub record Touches (s t : State) (i j : ℕ) : Type 0 where
  pub apart : (f l : ℕ) → is_touched f ≡ false → t f l ≡ s f l
  pub other : (l : ℕ) → (l ≡ i → ⊥) → (l ≡ j → ⊥) → SameRow s t l
  pub fits : Fits t

pub touch_next : {s t : State} {i j : ℕ} (x : ℕ) → x < 4294967296 → Writes is_row_table s t i j → Touches s (put t next_number 0 x) i j
touch_next {s} {t} x small c = record {
  apart = λ g k r. put_apart t next_number 0 x g k (λ e. tables_differ is_touched next_number g refl r (sym e)) ∙ c.apart g k (or_right (eqb g next_number) (is_row_table g) r);
  other = λ k a b g r. put_apart t next_number 0 x g k (tables_differ is_row_table g next_number r refl) ∙ c.other g k a b;
  fits = put_fits t next_number 0 x c.fits (omega arith) (omega arith) small;
}

-- a kind, and what a record names, fit their bytes
kind_small : {s : State} {k : ℕ} {r : List ℕ} → KindIn s k r → (k < 4294967296) × (basket_or_exposure_in r < 4294967296)
kind_small (fop_in e f) = (omega arith, omega (arith, f.basket_below))
kind_small (return_in e f) = (omega arith, omega (arith, f.exposure_below))

-- a whole row more
pub write_row : {o s t : State} {i j k : ℕ} {r : List ℕ} (l n side partner partial : ℕ) → RequestIn o k r → (l ≡ i) ⊎ (l ≡ j) → l < 256
    → n < 4294967296 → side ≤ 1 → partner ≤ 256 → partial ≤ 1 → Writes is_row_table s t i j → Writes is_row_table s (with_row t k r l n side partner partial) i j
unfolding with_row
write_row {k = k} {r = r} l n side partner partial q at row a b c d written =
    let kind = kind_small q.kind in
    write ends l 0 refl at row (omega arith)
    (write cancels l 0 refl at row (omega arith)
    (write pair_partials l partial refl at row (omega arith)
    (write partners l partner refl at row (omega arith)
    (write settled_amounts l 0 refl at row (omega arith)
    (write references l (reference_in k r) refl at row q.reference_small
    (write closings l (closing_in k r) refl at row q.closing_small
    (write settlements l (settlement_in r) refl at row q.settlement_small
    (write amounts l (amount_in r) refl at row (omega (arith, q.amount_high))
    (write baskets_or_exposures l (basket_or_exposure_in r) refl at row kind.1
    (write takers l (taker_in r) refl at row (omega (arith, q.parties.taker_below))
    (write givers l (giver_in r) refl at row (omega (arith, q.parties.giver_below))
    (write sides l side refl at row (omega arith)
    (write request_kinds l k refl at row kind.0
    (write numbers l n refl at row a written))))))))))))))

-- what it is worth: the rest of the book stays, and every other row too, since no row without a partner is another's partner
module _ {s t : State} {i j : ℕ} (c : Touches s t i j) (low : s next_number 0 ≤ t next_number 0) where
  pub touches_cover : Covers s t
  touches_cover = rows_cover c.apart low

  pub touches_keep : Good s → t next_number 0 ≤ 1000000000 → s partners i ≡ 0 → s partners j ≡ 0 → sound_row t i ≡ true → sound_row t j ≡ true → Distinct (t numbers)
      → (a b m : ℕ) → Keeps s (leaving a b m t [])
  touches_keep good high alone unpaired own mate distinct = rows_keep c.apart low good high row_sound distinct c.fits
    where
      row_sound : (l : ℕ) → l < 256 → sound_row t l ≡ true
      row_sound l m =
          elim (ℕ_discrete l i) [
            | yes e ↦ rw e own
            | no d ↦
                elim (ℕ_discrete l j) [
                  | yes e ↦ rw e mate
                  | no e ↦
                      same_row touches_cover good.facts l m (c.other l d e)
                      (λ u p. c.other (partner_of s l)
                      (λ q. partner_paired s good.facts l m u p (rw q alone))
                      (λ q. partner_paired s good.facts l m u p (rw q unpaired)))
                ]
          ]
