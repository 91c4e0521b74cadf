-- One exposure's step of each pass: what the code finds on arrays is what the definition gives back or pledges.
-- Assumes nothing.
use mathlib.Core.Path.{◌≡◌, sym, ap, ◌∙◌}
use mathlib.Core.Bool.{Bool, true, false, cond}
use mathlib.Core.List.{List}
use mathlib.Core.Logic.{⊎_elim}
use Prim.Native.Nat.{ℕ, ◌+◌, ◌*◌, ◌-◌, ◌<◌}
use native.Mathlib.Omega.{arith}
use lib.Dec.{eqb}
use lib.ListN.{length, get_or}
use borrow.Author.Tests.{eq-eqb, ne_eqb, lt-ltb, le-ltb}
use Rattle.laws.specs.Filled.{filled}
use Rattle.laws.specs.Search.{all}
use Rattle.laws.proofs.Cases.{either}
use Rattle.baskets.specs.Fresh.{EligibilityFor}
use Rattle.baskets.specs.declared.Eligibility.{Eligibility}
use Rattle.baskets.proofs.Eligible.{eligible_same}
use Rattle.picking.specs.Free.{freed}
use Rattle.picking.specs.Pick.{picked}
use Rattle.picking.specs.declared.Freed.{Freed}
use Rattle.picking.specs.declared.Outcome.{Outcome}
use Rattle.securities.specs.Position.{worth, nominals_of}
use Rattle.book.specs.Layout.{book_length, today, in_use, exposure_amounts, positions}
use Rattle.book.specs.State.{State, state, columns_of}
use Rattle.bonds.specs.Moves.{SoundBook, Pledging, GivingBack}
use Rattle.bonds.proofs.Ready.{gives_back, pledges}
use Rattle.bonds.proofs.Rows.{facts_of}
use Rattle.bond_laws.proofs.Lots.{pick_pledgeable, free_returnable}
use Rattle.facts.proofs.Filled.{filled_same}
use Rattle.facts.proofs.Stock.{position_at}
use Rattle.rules.specs.Marking.{moved, ineligible_of, ineligible_back, excess_back, shortfall_in, missing_of}
use Rattle.rules.specs.Stock.{basket_of, position_of, value_of, eligible_for, free_for, pick_for, pledge, give_back}
use Rattle.marking_laws.specs.Pass.{on_used, is_empty}
use Rattle.marking_laws.proofs.Counts.{picked_empty, freed_empty}
use Rattle.marking_laws.proofs.Marking.{ineligible_returnable, amounts_kept}
use Rattle.marking_laws.proofs.Moved.{moved_none, own_give_back}
use Rattle.marking_laws.proofs.Passes.{own_used}
use Rattle.eligibility.proofs.Fresh.{same_start}
use Rattle.mark_steps.specs.Stepped.{Stepped, ineligible_in, may_stay}
use Rattle.mark_steps.proofs.Moving.{none_back, some_back}
use Rattle.mark_steps.proofs.Passable.{Passable, first_pass, second_pass, third_pass, stepped_on}
use Rattle.mark_steps.proofs.Values.{value_freed, missing_used, lacking_used, lacking_is}
use Rattle.mark_steps.proofs.Returns.{all_stay}

-- nothing was freed or found where the count is 0, and only there
pub free_empty : (columns position : List ℕ) (exposure : ℕ) {f : Freed} → f ≡ freed columns position exposure → is_empty f.nominals ≡ eqb f.count 0
free_empty columns position exposure e = rw e (freed_empty columns position exposure 64 (omega arith))

pub pick_empty : (columns account : List ℕ) (test : ℕ → Bool) (amount : ℕ) {o : Outcome} → o ≡ picked columns account test amount → is_empty o.nominals ≡ eqb o.count 0
pick_empty columns account test amount e = rw e (picked_empty columns account test amount 64 (omega arith))

-- what a step that moved bonds, or none, leaves
abbrev pub Moved : (State → ℕ → List ℕ → State) → List ℕ → List ℕ → ℕ → List ℕ → Bool → Type 0
Moved move before after e nominals r = (state after ≡ move (state before) e nominals) × (r ≡ moved (state before) (state after) e)

module _ {book columns : List ℕ} {e : ℕ} (m : SoundBook book columns) where
  pub unused_step : {u : ℕ} (step : State → ℕ → State) → u ≡ state book in_use e → (u ≡ 1 → ⊥) → Stepped step columns book book e false
  unused_step step q n = record { book = m; kept = same_start (state book); stepped = rw (ne_eqb (state book in_use e) 1 (rw q at n)); told = rw (moved_none (state book) e) }

  module _ (below : e < 64) (small : (i : ℕ) → get_or book i 0 < 256) where
    used_step : {step : State → ℕ → State} {after : List ℕ} {r : Bool} → Passable step → state book in_use e ≡ 1 → length after ≡ book_length → state after ≡ step (state book) e
        → r ≡ moved (state book) (state after) e → Stepped step columns book after e r
    used_step p o l s k = stepped_on p m small below l (rw (eq-eqb (state book in_use e) 1 o) s) k

    module _ {u : ℕ} (q : u ≡ state book in_use e) (o : u ≡ 1) {position : List ℕ} (p : position ≡ position_of (state book) e) where
      -- first pass
      module _ {x : Eligibility} {nominals : List ℕ} (f : EligibilityFor (basket_of (state book) e) (state book today 0) (columns_of (state book)) x)
          (n : nominals ≡ filled (ineligible_in position columns x) 64 64) where
        ineligible_is : nominals ≡ ineligible_of (state book) e
        ineligible_is =
            let s = state book in
            rw (p, m.securities) at n
            ∙ filled_same (ineligible_in (position_of s e) (columns_of s) x) (λ i. cond (eligible_for s e i) 0 (s positions (64 * e + i))) 64 64
            (λ i l. ap (λ (b : Bool). cond b 0 (get_or (position_of s e) i 0)) (eligible_same f i l) ∙ ap (cond (eligible_for s e i) 0) (position_at s e i l))

        pub ineligible_gives : GivingBack (state book) e nominals
        ineligible_gives = rw ineligible_is (gives_back (state book) e (ineligible_of (state book) e) (facts_of m) below (sym q ∙ o) (ineligible_returnable (state book) e (facts_of m) below))

        ineligible_step : {after : List ℕ} {r : Bool} → length after ≡ book_length → Moved give_back book after e nominals r → Stepped ineligible_back columns book after e r
        unfolding ineligible_back
        ineligible_step l g = used_step first_pass (sym q ∙ o) l (rw ineligible_is at g.0) g.1

        module _ {b : Bool} (h : b ≡ all (may_stay position columns x) 64 0) where
          nothing : b ≡ is_empty nominals
          nothing = h ∙ all_stay position columns x ∙ ap is_empty (sym n)

          pub stays_step : b ≡ true → Stepped ineligible_back columns book book e false
          stays_step t = ineligible_step m.long (none_back (state book) e nominals nothing t)

          pub gives_step : b ≡ false → {after : List ℕ} → length after ≡ book_length → state after ≡ give_back (state book) e nominals → Stepped ineligible_back columns book after e true
          gives_step f l g = ineligible_step l (some_back (state book) e nominals nothing f ineligible_gives.enough g)

      -- second pass
      module _ {amount : ℕ} {f : Freed} (a : amount ≡ state book exposure_amounts e) (n : f ≡ freed columns position amount) where
        excess_is : f ≡ free_for (state book) e (state book exposure_amounts e)
        excess_is = rw (m.securities, p, a) at n

        pub excess_gives : GivingBack (state book) e f.nominals
        excess_gives = rw excess_is (gives_back (state book) e _ (facts_of m) below (sym q ∙ o) (free_returnable (state book) e (state book exposure_amounts e)))

        pub excess_step : {after : List ℕ} {r : Bool} → length after ≡ book_length → Moved give_back book after e f.nominals r → Stepped excess_back columns book after e r
        unfolding excess_back
        excess_step l g = used_step second_pass (sym q ∙ o) l (rw excess_is at g.0) g.1

        pub excess_missing : {t : State} {x : ℕ} → t ≡ give_back (state book) e f.nominals → x ≡ amount - f.left → x ≡ missing_of t e
        excess_missing g h =
            let k = amounts_kept (own_give_back (state book) e f.nominals).bonds e in
            let v : value_of (give_back (state book) e f.nominals) e ≡ f.left = rw excess_is (value_freed (state book) e (state book exposure_amounts e)) in
            rw g (missing_used (give_back (state book) e f.nominals) e (k.0 ∙ sym q ∙ o) (h ∙ rw (a, v, k.1)))

    -- third pass
    module _ {missing : ℕ} (h : missing ≡ missing_of (state book) e) where
      pub covered_step : missing ≡ 0 → Stepped shortfall_in columns book book e false
      unfolding shortfall_in
      covered_step z =
          let s = state book in
          let same : s ≡ on_used shortfall_in s e = ⊎_elim
          (λ t. let n : missing ≡ s exposure_amounts e - value_of s e = rw t at h in rw (t, le-ltb (value_of s e) (s exposure_amounts e) (omega arith)))
          (λ f. rw f)
          (either (eqb (s in_use e) 1)) in
          record { book = m; kept = same_start (state book); stepped = same; told = rw (moved_none (state book) e) }

      module _ (some : missing ≡ 0 → ⊥) {found : Outcome} (n : found ≡ pick_for (state book) e (eligible_for (state book) e) missing) where
        pub found_pledges : Pledging (state book) e found.nominals
        found_pledges = rw n (pledges (state book) e _ (facts_of m) below (lacking_used (state book) e h some) (pick_pledgeable (state book) e (eligible_for (state book) e) missing))

        pub search_step : {after : List ℕ} {r : Bool} → length after ≡ book_length → Moved pledge book after e found.nominals r → Stepped shortfall_in columns book after e r
        unfolding shortfall_in
        search_step l t =
            let i = lacking_is (state book) e h some in
            let short : value_of (state book) e < state book exposure_amounts e = omega arith in
            used_step third_pass (lacking_used (state book) e h some) l (rw (lt-ltb (value_of (state book) e) (state book exposure_amounts e) short) (rw (n, i) at t.0)) t.1

        -- the position after it, valued anew
        pub search_missing_is : {after row : List ℕ} {r : Bool} {v x y : ℕ} → Stepped shortfall_in columns book after e r → row ≡ position_of (state after) e → v ≡ worth columns (nominals_of row)
            → y ≡ state after exposure_amounts e → x ≡ y - v → x ≡ missing_of (state after) e
        search_missing_is {after} {row} {r} {v} {x} t p w a d =
            let b = (own_used shortfall_in third_pass.local (state book) e).bonds in
            let u : state after in_use e ≡ 1 = rw t.stepped (amounts_kept b e).0 ∙ lacking_used (state book) e h some in
            missing_used (state after) e u (rw (a, w, t.book.securities, p) at d)
