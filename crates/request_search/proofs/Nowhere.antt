-- A search among the 64 exposure rows that finds none.
-- Assumes nothing.
use mathlib.Core.Path.{◌≡◌, refl, sym}
use mathlib.Core.Bool.{Bool, true, not}
use Prim.Native.Nat.{ℕ}
use native.Mathlib.Omega.{arith}
use lib.Dec.{eqb}
use borrow.Author.Tests.{eq-eqb}
use Rattle.std.specs.Prelude.{Option, Some, None}
use Rattle.std.specs.Option.{is_some}
use Rattle.laws.specs.Search.{least}
use Rattle.laws.specs.Found.{found}
use Rattle.laws.proofs.Cases.{clash}
use Rattle.laws.proofs.Found.{found_nothing}
use Rattle.laws.proofs.Ranges.{least_le}

pub nowhere : (t : ℕ → Bool) {r : Option ℕ} {b : Bool} → r ≡ found 64 (least t 64 0) → is_some r ≡ not b → b ≡ true → eqb (least t 64 0) 64 ≡ true
nowhere t {r = None} e s h = eq-eqb (least t 64 0) 64 (omega (arith, found_nothing 64 (least t 64 0) e refl, least_le t 64 0))
nowhere t {r = Some x} e s h = clash (sym s) (rw h)
