-- What the events of a step add up to, for each exposure row. The ledger's own sums are shown to give the same amounts in crates/ledger.
-- Assumes nothing.
use mathlib.Core.Path.{◌≡◌, refl}
use mathlib.Core.Bool.{cond}
use mathlib.Core.List.{List, [], ◌∷◌, ◌++◌}
use Prim.Native.Nat.{ℕ, ◌+◌}
use lib.Dec.{eqb}
use Rattle.rules.specs.Outcome.{Event, given, settled, returned, closed}

-- settled into, returned from and closed, since the row was last given out
pub record Sums : Type 0 where
  pub settled_in : ℕ → ℕ
  pub returns : ℕ → ℕ
  pub closes : ℕ → ℕ

-- a sum with n more at one place, and with 0 there
abbrev pub more : (ℕ → ℕ) → ℕ → ℕ → ℕ → ℕ
more f e n d = cond (eqb d e) (f d + n) (f d)

abbrev pub zero_at : (ℕ → ℕ) → ℕ → ℕ → ℕ
zero_at f e d = cond (eqb d e) 0 (f d)

abbrev pub noted : Sums → Event → Sums
noted p (given e) = record { settled_in = zero_at p.settled_in e; returns = zero_at p.returns e; closes = zero_at p.closes e }
noted p (settled e x) = record { settled_in = more p.settled_in e x; returns = p.returns; closes = p.closes }
noted p (returned e x) = record { settled_in = p.settled_in; returns = more p.returns e x; closes = p.closes }
noted p (closed e x) = record { settled_in = p.settled_in; returns = p.returns; closes = more p.closes e x }

unfoldable pub all_noted : Sums → List Event → Sums
all_noted p [] = p
all_noted p (e ∷ es) = all_noted (noted p e) es

-- one list of events after the other, and one event more
pub noted_append : (p : Sums) (xs ys : List Event) → all_noted p (xs ++ ys) ≡ all_noted (all_noted p xs) ys
unfolding all_noted
noted_append p [] ys = refl
noted_append p (x ∷ xs) ys = noted_append (noted p x) xs ys

pub noted_one : (p : Sums) (xs : List Event) (e : Event) → all_noted p (xs ++ (e ∷ [])) ≡ noted (all_noted p xs) e
unfolding all_noted
noted_one p xs e = noted_append p xs (e ∷ [])
