-- `marking::give_all_ineligible` meets its contract: the exposures below `e` have given back.
-- Assumes nothing.
use mathlib.Core.Path.{◌≡◌}
use mathlib.Core.Bool.{false}
use Prim.Native.Nat.{ℕ, ◌≤◌, ◌<◌}
use lib.ListN.{length, get_or}
use Rattle.book.specs.State.{state}
use Rattle.rules.specs.Marking.{on_exposures, moved, ineligible_back}
use Rattle.marking.proofs.Passing.{On}
use Rattle.marking.proofs.give_all_ineligible.Given as goal

abbrev pub invariant-loop-e : goal.invariant-loop-e
invariant-loop-e l = (l.e ≤ 64) × On ineligible_back l.prices l.initial.book l.book l.e × (length l.gave ≡ 64) × ((j : ℕ) → j < l.e → get_or l.gave j false ≡ moved (state l.initial.book) (on_exposures ineligible_back 64 (state l.initial.book)) j)
