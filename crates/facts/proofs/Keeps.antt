-- What a step keeps, for the calls that follow and for the ledger: a sound book, each participant's bonds, the exposures' amounts.
-- Assumes nothing.
use mathlib.Core.Path.{◌≡◌}
use Prim.Native.Nat.{ℕ, ◌+◌, ◌<◌}
use Rattle.book.specs.Layout.{exposure_amounts}
use Rattle.book.specs.State.{State}
use Rattle.facts.proofs.Sums.{Sums, all_noted}
use Rattle.rules.specs.Outcome.{Step}
use Rattle.rules.specs.Stock.{holding}
use Rattle.facts.specs.Good.{Good}

-- each exposure row's amount is what was settled into it, less what was returned and closed, whether the row is in use or not: one
-- that was freed holds 0, and keeps its sums until it is given out again. Past the last row nothing is ever noted, so e has no bound
abbrev pub Amounts : State → Sums → Type 0
Amounts s p = (e : ℕ) → p.returns e + p.closes e + s exposure_amounts e ≡ p.settled_in e

-- what every step but an opening, a deposit and a withdrawal keeps
pub record Keeps (s : State) (t : Step) : Type 0 where
  pub good : Good t.state
  pub bonds : (p i : ℕ) → p < 32 → i < 64 → holding t.state p i ≡ holding s p i
  pub amounts : (p : Sums) → Amounts s p → Amounts t.state (all_noted p t.events)
