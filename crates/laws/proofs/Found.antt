-- What a search over a range answers, as a number or nothing.
-- Assumes nothing.
use mathlib.Core.Path.{◌≡◌, refl, sym, ◌∙◌}
use mathlib.Core.Bool.{Bool, true, false, cond}
use Prim.Native.Nat.{ℕ, ◌-◌, ◌≤◌, ◌<◌}
use native.Mathlib.Omega.{arith}
use lib.Dec.{ltb}
use borrow.Author.Tests.{lt-ltb, le-ltb, ltb-true, ltb-false}
use denote.Ref.{Bor}
use denote.Param.Members.{Mut}
use Rattle.std.specs.Prelude.{List, Option, Some, None}
use Rattle.std.specs.declared.ops.Range.{Range}
use Rattle.std.specs.Bool.{⊤}
use Rattle.std.specs.Fn.{CalledAt}
use Rattle.std.specs.Iterator.{YieldsThen}
use Rattle.std.specs.List.{FoldsTo}
use Rattle.std.specs.Option.{MatchOption}
use Rattle.std.proofs.iter.Yields.{nat_range_steps}
use Rattle.laws.specs.Search.{least}
use Rattle.laws.specs.Found.{found}
use Rattle.laws.proofs.Ranges.{IsLeastOf, find_over_range}

pub found_here : (n i : ℕ) → i < n → Some i ≡ found n i
found_here n i h = rw (lt-ltb i n h)

pub found_none : (n i : ℕ) → n ≤ i → None ≡ found n i
found_none n i h = rw (le-ltb i n h)

pub found_least : (t : ℕ → Bool) (a b : ℕ) (r : Option ℕ) → IsLeastOf t a b r → r ≡ found b (least t (b - a) a)
found_least t a b None h = rw h (found_none b b (omega arith))
found_least t a b (Some i) h = rw h.0 (found_here b i h.2)

-- `find` over the numbers from a up to b, by a test that the closure computes
module _ {F : Type 0} {g : Mut F (Bor ℕ × Unit {0}) Bool} {a b : ℕ} (t : ℕ → Bool) (u : Range ℕ) (f : F) (r : Option ℕ) (h : a ≤ b) where
  pub found_over_range : (xs : List ℕ) × (j : F) × YieldsThen nat_range_steps (record { start = a; end = b }) xs r u × FoldsTo (λ p x q. CalledAt g p x false q) f xs j × MatchOption r ⊤ (λ x. (h : F) × CalledAt g j x true h)
      → ((x : ℕ) (y : Bool) (q : F) → CalledAt g f x y q → (q ≡ f) × (y ≡ t x)) → r ≡ found b (least t (b - a) a)
  found_over_range ran here = found_least t a b r (find_over_range {a = a} {b = b} t u f r h ran here)

-- the answer's cases
pub found_some : (n i : ℕ) {k : ℕ} {r : Option ℕ} → r ≡ found n i → r ≡ Some k → (k ≡ i) × (i < n)
found_some n i e s = go (ltb i n) refl e s
  where
    go : (b : Bool) → ltb i n ≡ b → {k : ℕ} {r : Option ℕ} → r ≡ cond b (Some i) None → r ≡ Some k → (k ≡ i) × (i < n)
    go true h e s = (let q : Some i ≡ Some _ = sym e ∙ s in cc, ltb-true i n h)
    go false h e s = absurd (cc)

pub found_nothing : (n i : ℕ) {r : Option ℕ} → r ≡ found n i → r ≡ None → n ≤ i
found_nothing n i e s = go (ltb i n) refl e s
  where
    go : (b : Bool) → ltb i n ≡ b → {r : Option ℕ} → r ≡ cond b (Some i) None → r ≡ None → n ≤ i
    go true h e s = absurd (cc)
    go false h e s = ltb-false i n h
