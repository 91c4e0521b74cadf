-- A test of each of some tables, and of each of their numbers.
-- Assumes nothing.
use mathlib.Core.Path.{◌≡◌, refl, ap}
use mathlib.Core.Bool.{Bool, ◌&&◌, true, false}
use mathlib.Core.List.{List, [], ◌∷◌}
use Prim.Native.Nat.{ℕ}
use Rattle.std.specs.List.{list_all}
use Rattle.laws.specs.Lists.{every}
use Rattle.book.specs.Tables.{number, numbers_of}
use Rattle.book.specs.declared.layout.Table.{Table}

and_true : (b : Bool) → b && true ≡ b
and_true true = refl
and_true false = refl

pub all_named : (test : ℕ → Bool) (tables : List Table) → list_all (λ (t : Table). test (number t)) tables ≡ every test (numbers_of tables)
all_named test [] = refl
all_named test (t ∷ []) = and_true (test (number t))
all_named test (t ∷ (u ∷ us)) = ap (λ b. test (number t) && b) (all_named test (u ∷ us))
