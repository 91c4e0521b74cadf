-- What each return of the tests of rows shows.
-- Assumes nothing.
use mathlib.Core.Path.{◌≡◌}
use mathlib.Core.Bool.{Bool}
use Prim.Native.Nat.{ℕ, ◌+◌, ◌-◌}
use native.Mathlib.Omega.{arith}
use lib.Dec.{eqb}
use Rattle.laws.specs.Search.{all}
use Rattle.laws.proofs.Least.{Rest}
use Rattle.book.specs.State.{State}
use Rattle.rules.specs.ByRow.{same}

-- one number of a table, and two
pub by_one : {x y : ℕ} → x ≡ y → eqb x 0 ≡ eqb y 0
by_one e = rw e

pub by_two : (s : State) (f i j : ℕ) {x y : ℕ} → x ≡ s f i → y ≡ s f j → eqb x y ≡ same s f i j
by_two s f i j e g = rw (e, g)

-- a loop over n numbers from one on starts
pub loop_starts : {t : ℕ → Bool} (n from : ℕ) → Rest t (from + n) from (all t n from)
loop_starts {t} n from = let e : from + n - from ≡ n = omega arith in record { decides = rw e }
