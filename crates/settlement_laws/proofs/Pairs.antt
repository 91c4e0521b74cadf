-- Both rows of a pair settle an amount more: the book stays sound where that is at most their rest.
-- Assumes nothing.
use mathlib.Core.Path.{◌≡◌, refl, sym, ap, ◌∙◌}
use mathlib.Core.Bool.{true}
use mathlib.Core.Logic.{⊎_elim}
use Prim.Native.Nat.{ℕ, ◌+◌, ◌^◌, ◌≤◌, ◌<◌}
use native.Mathlib.Decide.{ℕ_discrete}
use native.Mathlib.Omega.{arith}
use lib.Dec.{eqb}
use borrow.Author.Tests.{eq-eqb, ne_eqb, eqb-true, eqb-false, le-leb, not-true, not-false}
use Rattle.laws.specs.Search.{all}
use Rattle.laws.proofs.Cases.{either}
use Rattle.book.specs.Layout.{sides, amounts, settled_amounts, partners}
use Rattle.book.specs.State.{State, put}
use Rattle.book.proofs.Images.{put_cases, put_fits}
use Rattle.rules.specs.Requests.{is_used, is_paired, partner_of, rest_of}
use Rattle.rules.specs.Settlement.{both_settled}
use Rattle.rules.specs.Stock.{holding}
use Rattle.rules.specs.ByRow.{sound_row}
use Rattle.facts.specs.Good.{Good}
use Rattle.facts.proofs.Rows.{Fields, Kind, fop, return, Pair, used_fields, used_paired, used_unpaired, unused_blank_lem, blank_sound}

-- an amount of either kind is at most 10^12
pub amount_le : {s : State} {i : ℕ} → Kind s i → s amounts i ≤ 1000000000000
amount_le (fop e f) = f.amount_high
amount_le (return e r) = r.amount_high

module _ (s : State) (i x : ℕ) (h : Good s) (below : i < 256) (used : is_used s i ≡ true) (paired : is_paired s i ≡ true) where
  abbrev partner : ℕ
  partner = partner_of s i

  abbrev after : State
  after = both_settled s i x

  fields : Fields s i
  fields = used_fields s i (h.facts.row i below) used

  pair : Pair s i partner
  pair = (used_paired s i (h.facts.row i below) used paired).pair

  -- the two rows are two, each names the other, and no third row names one of them
  two : i ≡ partner → ⊥
  two q = let z : s sides i ≡ s sides partner = ap (s sides) q in omega (arith, pair.opposite)

  own_partner : s partners i ≡ partner + 1
  own_partner = let n = eqb-false (s partners i) 0 (not-true (eqb (s partners i) 0) paired) in omega arith

  third : (k : ℕ) → (k ≡ i → ⊥) → (k ≡ partner → ⊥) → s partners (partner_of s k) ≡ k + 1 → (partner_of s k ≡ i → ⊥) × (partner_of s k ≡ partner → ⊥)
  third k n m e = (
    λ q. let z : s partners i ≡ k + 1 = rw q at e in omega (arith, own_partner),
    λ q. let z : s partners partner ≡ k + 1 = rw q at e in omega (arith, pair.named),
  )

  -- what they have settled
  own_settled : after settled_amounts i ≡ s settled_amounts i + x
  own_settled = rw (eq-eqb i i refl, ne_eqb i partner two)

  partner_settled : after settled_amounts partner ≡ s settled_amounts i + x
  partner_settled = rw (eq-eqb partner partner refl) (omega (arith, pair.settled))

  -- any other row is as it was
  other_row : (k : ℕ) → (k ≡ i → ⊥) → (k ≡ partner → ⊥) → (f : ℕ) → after f k ≡ s f k
  other_row k n m f =
      let one = put s settled_amounts i (s settled_amounts i + x) in
      put_cases one settled_amounts partner (s settled_amounts partner + x) (λ (y : ℕ). y ≡ s f k) f k (λ a b. absurd (m b))
      (λ a. put_cases s settled_amounts i (s settled_amounts i + x) (λ (y : ℕ). y ≡ s f k) f k (λ b c. absurd (n c)) (λ b. refl))

  -- a row that names no partner is neither of the two
  alone : (k : ℕ) → s partners k ≡ 0 → (k ≡ i → ⊥) × (k ≡ partner → ⊥)
  alone k e = (
    λ q. let z : s partners i ≡ 0 = rw q at e in omega (arith, own_partner),
    λ q. let z : s partners partner ≡ 0 = rw q at e in omega (arith, pair.named),
  )

  alone_settled : (k : ℕ) → s partners k ≡ 0 → s settled_amounts k ≡ 0 → after settled_amounts k ≡ 0
  alone_settled k e z = other_row k (alone k e).0 (alone k e).1 settled_amounts ∙ z

  -- partners have settled the same
  same_settled : (k : ℕ) → Pair s k (partner_of s k) → after settled_amounts k ≡ after settled_amounts (partner_of s k)
  same_settled k r =
      elim (ℕ_discrete k i) [
        | yes q ↦ rw q (own_settled ∙ sym partner_settled)
        | no n ↦ elim (ℕ_discrete k partner) [
          | yes q ↦ let back : partner_of s partner ≡ i = omega (arith, pair.named) in rw (q, back) (partner_settled ∙ sym own_settled)
          | no m ↦ let c = third k n m r.named in other_row k n m settled_amounts ∙ r.settled ∙ sym (other_row (partner_of s k) c.0 c.1 settled_amounts)
        ]
      ]

  module _ (small : x ≤ rest_of s i) where
    -- no row has settled more than its amount
    settled_within_lem : (k : ℕ) → s settled_amounts k ≤ s amounts k → after settled_amounts k ≤ s amounts k
    settled_within_lem k l =
        elim (ℕ_discrete k i) [
          | yes q ↦ rw (q, own_settled) (omega (arith, fields.settled))
          | no n ↦ elim (ℕ_discrete k partner) [
            | yes q ↦ rw (q, partner_settled) (omega (arith, fields.settled, pair.amount))
            | no m ↦ rw (other_row k n m settled_amounts) l
          ]
        ]

    -- so each row is sound: of a used one the settled amount alone is new
    row : (k : ℕ) → k < 256 → sound_row after k ≡ true
    unfolding all
    row k l =
        let old = h.facts.row k l in
        let was = s settled_amounts k in
        let now = after settled_amounts k in
        ⊎_elim
        (λ u.
        let within = (used_fields s k old u).settled in
        let low = le-leb was (s amounts k) within in
        let high = le-leb now (s amounts k) (settled_within_lem k within) in
        ⊎_elim
        (λ p.
        let r = (used_paired s k old u p).pair in
        rw (u, p, high, eq-eqb now (after settled_amounts (partner_of s k)) (same_settled k r)) (rw (u, p, low, eq-eqb was (s settled_amounts (partner_of s k)) r.settled) at old))
        (λ p.
        let none = (used_unpaired s k old u p).settled in
        let lone : s partners k ≡ 0 = eqb-true (s partners k) 0 (not-false (eqb (s partners k) 0) p) in
        rw (u, p, high, eq-eqb now 0 (alone_settled k lone none)) (rw (u, p, low, eq-eqb was 0 none) at old))
        (either (is_paired s k)))
        (λ u.
        let none = unused_blank_lem s k old u in
        let lone = alone k (none partners (omega arith) (omega arith)) in
        blank_sound after k u (λ f g m. other_row k lone.0 lone.1 f ∙ none f g m))
        (either (is_used s k))

    pub good_both : Good (both_settled s i x)
    unfolding all holding
    good_both =
        let f = h.facts in
        let most = amount_le fields.kind in
        let more : s settled_amounts i + x < 256 ^ 8 = omega (arith, fields.settled) in
        record {
          facts = record {
            head = f.head;
            security = f.security;
            participant = f.participant;
            basket = f.basket;
            spare = f.spare;
            row = row;
            number = f.number;
            exposure = f.exposure;
            key = f.key;
            position = f.position;
            held = f.held;
          };
          fits =
              put_fits (put s settled_amounts i (s settled_amounts i + x)) settled_amounts partner (s settled_amounts partner + x)
              (put_fits s settled_amounts i (s settled_amounts i + x) h.fits (omega arith) below more) (omega arith) pair.partner_below (rw (← pair.settled) more);
        }
