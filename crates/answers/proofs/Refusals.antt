-- Every refusal has a code.
-- Assumes nothing.
use mathlib.Core.Path.{◌≡◌}
use native.Mathlib.Omega.{arith}
use Rattle.answers.specs.declared.Refusal.{Refusal}
use Rattle.answers.specs.declared.Refusal.TheVariants.{BookLength, UnsoundBook, Malformed, OutOfRange, NotSetUp, SetUpAgain, BadDay, SameParty, Automatic, TooMuch, TooLarge, NoneSuch, Settled, NoRow, NoExposure, NotCovered}
use Rattle.answers.specs.Refusals.{number}

pub number_some : (r : Refusal) → number r ≡ 0 → ⊥
number_some BookLength z = omega arith
number_some UnsoundBook z = omega arith
number_some Malformed z = omega arith
number_some OutOfRange z = omega arith
number_some NotSetUp z = omega arith
number_some SetUpAgain z = omega arith
number_some BadDay z = omega arith
number_some SameParty z = omega arith
number_some Automatic z = omega arith
number_some TooMuch z = omega arith
number_some TooLarge z = omega arith
number_some NoneSuch z = omega arith
number_some Settled z = omega arith
number_some NoRow z = omega arith
number_some NoExposure z = omega arith
number_some NotCovered z = omega arith
