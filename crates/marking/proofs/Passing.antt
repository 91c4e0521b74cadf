-- A loop over the exposures: the book on the way is the pass so far, sound and with the same securities, and what a step tells of its
-- exposure is what the whole pass does to it.
-- Assumes nothing.
use mathlib.Core.Path.{◌≡◌, refl, sym, ap, ◌∙◌}
use mathlib.Core.Bool.{Bool, cond}
use mathlib.Core.List.{List}
use mathlib.Core.Logic.{⊎_elim}
use Prim.Native.Nat.{ℕ, ◌+◌, ◌*◌, ◌-◌, ◌≤◌, ◌<◌}
use native.Mathlib.Nat.{le_refl}
use native.Mathlib.Omega.{arith}
use lib.Dec.{eqb}
use borrow.Author.Tests.{eqb-true}
use Rattle.laws.proofs.Cases.{either}
use Rattle.securities.specs.Position.{worth, nominals_of}
use Rattle.book.specs.Layout.{in_use, exposure_amounts, positions}
use Rattle.book.specs.State.{State, state, columns_of}
use Rattle.eligibility.specs.Fresh.{FreshBaskets}
use Rattle.eligibility.specs.declared.Prices.{Prices}
use Rattle.eligibility.proofs.Fresh.{fresh_same}
use Rattle.bonds.specs.Moves.{SoundBook}
use Rattle.bonds.proofs.Rows.{amount_le}
use Rattle.facts.proofs.Filled.{filled_same}
use Rattle.rules.specs.Marking.{on_exposures, moved, missing_of}
use Rattle.rules.specs.Stock.{position_of, value_of}
use Rattle.marking_laws.proofs.Marking.{amounts_kept}
use Rattle.marking_laws.proofs.Moved.{Bonds, bonds_then, Alike}
use Rattle.marking_laws.proofs.Passes.{on_none, on_next, own_used, pass_bonds, pass_later, pass_row, pass_moved}
use Rattle.marking_laws.proofs.Recalls.{columns_kept}
use Rattle.mark_steps.specs.Stepped.{Stepped}
use Rattle.mark_steps.proofs.Passable.{Passable}

-- positions alike, as much missing
missing_same : {s t : State} (e : ℕ) → Bonds s t → Alike t s e → missing_of t e ≡ missing_of s e
missing_same {s} {t} e b a =
    let k = amounts_kept b e in
    let row : position_of t e ≡ position_of s e = filled_same (λ i. t positions (64 * e + i)) (λ i. s positions (64 * e + i)) 64 64 a in
    let value : value_of t e ≡ value_of s e = ap (λ (c : List ℕ). worth c (nominals_of (position_of t e))) (columns_kept b) ∙ ap (λ (r : List ℕ). worth (columns_of s) (nominals_of r)) row in
    ap (λ (u : ℕ). cond (eqb u 1) (t exposure_amounts e - value_of t e) 0) k.0
    ∙ ap (λ (x : ℕ). cond (eqb (s in_use e) 1) (x - value_of t e) 0) k.1
    ∙ ap (λ (v : ℕ). cond (eqb (s in_use e) 1) (s exposure_amounts e - v) 0) value

bonds_between : {s t u : State} → Bonds s t → Bonds s u → Bonds t u
bonds_between b c = record { others = λ g j a p. c.others g j a p ∙ sym (b.others g j a p) }

-- no more than an amount is missing
pub missing_le : {book columns : List ℕ} {e : ℕ} → SoundBook book columns → e < 64 → missing_of (state book) e ≤ 10000000000000
missing_le {book} {columns} {e} m below =
    ⊎_elim
    (λ t. let a = amount_le m below refl (eqb-true (state book in_use e) 1 t) in rw t (omega arith))
    (λ f. rw f (omega arith))
    (either (eqb (state book in_use e) 1))

-- the book after the exposures below e
pub record On (step : State → ℕ → State) (prices : Prices) (start book : List ℕ) (e : ℕ) : Type 0 where
  pub whole : SoundBook book prices.columns
  pub fresh : FreshBaskets (state book) prices.since
  pub reached : state book ≡ on_exposures step e (state start)

module _ {step : State → ℕ → State} {prices : Prices} {start : List ℕ} where
  pub on_start : SoundBook start prices.columns → FreshBaskets (state start) prices.since → On step prices start start 0
  on_start m f = record { whole = m; fresh = f; reached = sym (on_none step (state start)) }

  module _ {book : List ℕ} {e : ℕ} (o : On step prices start book e) where
    pub on_step : {after : List ℕ} {flag : Bool} → Stepped step prices.columns book after e flag → On step prices start after (e + 1)
    on_step t = record { whole = t.book; fresh = fresh_same t.kept o.fresh; reached = t.stepped ∙ rw o.reached (sym (on_next step e (state start))) }

    pub on_end : e ≤ 64 → 64 ≤ e → state book ≡ on_exposures step 64 (state start)
    on_end l h = let q : e ≡ 64 = omega arith in rw q at o.reached

    module _ (p : Passable step) where
      -- nothing is missing that was not before the pass
      pub on_before : missing_of (state start) e ≡ missing_of (state book) e
      on_before = rw o.reached (sym (missing_same e (pass_bonds step p.local (state start) e) (pass_later step p.local (state start) e e (le_refl e))))

      module _ {after : List ℕ} {flag : Bool} (l : e < 64) (t : Stepped step prices.columns book after e flag) where
        pub on_flag : flag ≡ moved (state start) (on_exposures step 64 (state start)) e
        on_flag = t.told ∙ rw (t.stepped, o.reached) (sym (pass_moved step p.local (state start) 64 e l))

        pub on_missing : {x : ℕ} → x ≡ missing_of (state after) e → x ≡ missing_of (on_exposures step 64 (state start)) e
        on_missing h =
            let s = state start in
            let b = bonds_then (pass_bonds step p.local s e) (own_used step p.local (on_exposures step e s) e).bonds in
            h ∙ rw (t.stepped, o.reached) (sym (missing_same e (bonds_between b (pass_bonds step p.local s 64)) (pass_row step p.local s 64 e l)))
