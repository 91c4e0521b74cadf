-- The paper in order: what holds of it after every list of calls.
-- Assumes nothing.
use mathlib.Core.Path.{◌≡◌, refl, fun_ext}
use mathlib.Core.Bool.{true, false}
use mathlib.Core.List.{List, [], ◌∷◌}
use mathlib.Core.Logic.{⊎_elim}
use Prim.Native.Nat.{ℕ, ◌+◌, ◌<◌}
use native.Mathlib.Decide.{ℕ_discrete}
use native.Mathlib.Omega.{arith}
use lib.Dec.{eqb}
use borrow.Author.Tests.{eq-eqb, ne_eqb}
use Rattle.laws.proofs.Cases.{either}
use Rattle.book.specs.Layout.{exposure_amounts}
use Rattle.book.specs.State.{State}
use Rattle.ledger.specs.Ledger.{Sums, Paper, on_paper, noted, all_noted}
use Rattle.rules.specs.Outcome.{Event, given, settled, returned, closed}
use Rattle.rules.specs.Stock.{holding}
use Rattle.facts.proofs.Keeps.{Amounts}
use Rattle.facts.specs.Good.{Good}
use Rattle.facts.proofs.Sums as told

-- the paper's sums as the laws of the steps count them
abbrev pub sums_of : Sums → told.Sums
sums_of p = record { settled_in = p.settled_in; returns = p.returns; closes = p.closes }

-- a sound state, each exposure row's amount by its sums, each participant's bonds by theirs
pub record InOrder (p : Paper) : Type 0 where
  pub good : Good p.steps
  pub amounts : Amounts p.steps (sums_of p.sums)
  pub bonds : (q i : ℕ) → q < 32 → i < 64 → holding p.steps q i + p.withdrawals q i ≡ p.deposits q i

-- what the Steps are run on is the paper's state: the amounts by the sums are the amounts
module _ (p : Paper) (o : InOrder p) where
  on_paper_at : (f i : ℕ) → on_paper p f i ≡ p.steps f i
  unfolding on_paper
  on_paper_at f i =
      elim (ℕ_discrete f exposure_amounts) [
        | yes e ↦ rw (eq-eqb f exposure_amounts e, e) (omega (arith, o.amounts i))
        | no e ↦ rw (ne_eqb f exposure_amounts e)
      ]

  pub on_paper_lem : on_paper p ≡ p.steps
  on_paper_lem = fun_ext (λ f. fun_ext (λ i. on_paper_at f i))

-- two counts of the rows' sums give the same amounts: S − R − C is the same in every row
abbrev SameAmounts : told.Sums → told.Sums → Type 0
SameAmounts a b = (d : ℕ) → a.settled_in d + (b.returns d + b.closes d) ≡ b.settled_in d + (a.returns d + a.closes d)

-- the row that an event names, and any other
in_row : {A : Type 0} (d e : ℕ) → (eqb d e ≡ true → A) → (eqb d e ≡ false → A) → A
in_row d e own other = ⊎_elim own other (either (eqb d e))

-- an event moves an amount on paper as the step that tells it moves the row's
noted_amounts : (p : Sums) (q : told.Sums) (e : Event) → SameAmounts (sums_of p) q → SameAmounts (sums_of (noted p e)) (told.noted q e)
noted_amounts p q (given e) h d = in_row d e (λ t. rw t (omega arith)) (λ t. rw t (h d))
noted_amounts p q (settled e x) h d = in_row d e (λ t. rw t (omega (arith, h d))) (λ t. rw t (h d))
noted_amounts p q (returned e x) h d = in_row d e (λ t. rw t (omega (arith, h d))) (λ t. rw t (h d))
noted_amounts p q (closed e x) h d = in_row d e (λ t. rw t (omega (arith, h d))) (λ t. rw t (h d))

all_amounts : (es : List Event) (p : Sums) (q : told.Sums) → SameAmounts (sums_of p) q → SameAmounts (sums_of (all_noted p es)) (told.all_noted q es)
unfolding all_noted told.all_noted
all_amounts [] p q h = h
all_amounts (e ∷ es) p q h = all_amounts es (noted p e) (told.noted q e) (noted_amounts p q e h)

-- the amounts are the sums' after the events of a step too
pub noted_in_order : (s : State) (p : Sums) (es : List Event) → Amounts s (told.all_noted (sums_of p) es) → Amounts s (sums_of (all_noted p es))
noted_in_order s p es a e = omega (arith, all_amounts es p (sums_of p) (λ d. refl) e, a e)
