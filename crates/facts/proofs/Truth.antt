-- Tests joined by "and", as facts: a list of tests is split into its members and joined again.
-- Assumes nothing.
use mathlib.Core.Path.{◌≡◌, refl, sym, ◌∙◌}
use mathlib.Core.Bool.{Bool, true, false, not, ◌&&◌, ◌||◌, cond, or-true, and_assoc}
use mathlib.Core.List.{List, [], ◌∷◌}
use mathlib.Core.Logic.{⊎_elim}
use Prim.Native.Nat.{ℕ, zero, suc, ◌+◌, ◌≤◌, ◌<◌}
use native.Mathlib.Omega.{arith}
use lib.Dec.{leb}
use borrow.Author.Tests.{leb-true, le-leb}
use Rattle.laws.specs.Search.{all, of_each}
use Rattle.laws.proofs.Cases.{either, clash, and_left, and_right}
use Rattle.laws.proofs.Least.{all_at}

-- all of a list of tests, as one test
abbrev pub joined : List Bool → Bool
joined [] = true
joined (b ∷ []) = b
joined (b ∷ (c ∷ bs)) = b && joined (c ∷ bs)

-- each of them, as facts
abbrev pub Each : List Bool → Type 0
Each [] = ◌≡◌ {A = Bool} true true
Each (b ∷ []) = b ≡ true
Each (b ∷ (c ∷ bs)) = (b ≡ true) × Each (c ∷ bs)

pub split : (bs : List Bool) → joined bs ≡ true → Each bs
split [] h = refl
split (b ∷ []) h = h
split (b ∷ (c ∷ bs)) h = (and_left b (joined (c ∷ bs)) h, split (c ∷ bs) (and_right b (joined (c ∷ bs)) h))

pub join : (bs : List Bool) → Each bs → joined bs ≡ true
join [] h = refl
join (b ∷ []) h = h
join (b ∷ (c ∷ bs)) h = rw h.0 (join (c ∷ bs) h.1)

-- two numbers of a test: within a range
abbrev pub Between : ℕ → ℕ → ℕ → Type 0
Between low high x = (low ≤ x) × (x ≤ high)

pub between_facts : (low high x : ℕ) → (leb low x && leb x high) ≡ true → Between low high x
between_facts low high x h =
    let t = split (leb low x ∷ leb x high ∷ []) h in
    (leb-true low x t.0, leb-true x high t.1)

pub facts_between : (low high x : ℕ) → Between low high x → (leb low x && leb x high) ≡ true
facts_between low high x h = join (leb low x ∷ leb x high ∷ []) (le-leb low x h.0, le-leb x high h.1)

-- the branch that a test takes
module _ (a b : Bool) where
  pub cond_then : (t : Bool) → t ≡ true → cond t a b ≡ true → a ≡ true
  cond_then t e h = rw e at h

  pub cond_else : (t : Bool) → t ≡ false → cond t a b ≡ true → b ≡ true
  cond_else t e h = rw e at h

-- two tests of which each implies the other
pub agree : {a b : Bool} → (a ≡ true → b ≡ true) → (b ≡ true → a ≡ true) → a ≡ b
agree {a} {b} f g =
    ⊎_elim
    (λ p. p ∙ sym (f p))
    (λ p. ⊎_elim (λ q. clash (g q) p) (λ q. p ∙ sym q) (either b))
    (either a)

-- a test over a range, from each of its numbers
pub all_of : (t : ℕ → Bool) (n i : ℕ) → ((j : ℕ) → i ≤ j → j < i + n → t j ≡ true) → all t n i ≡ true
unfolding all
all_of t zero i h = refl
all_of t (suc n) i h = rw (h i (omega arith) (omega arith), all) (all_of t n (suc i) (λ j g l. h j (omega arith) (omega arith)))

pub below : (t : ℕ → Bool) (n : ℕ) → all t n 0 ≡ true → (j : ℕ) → j < n → t j ≡ true
below t n h j l = all_at t n 0 h j (omega arith) (omega arith)

-- a clause of those below n that pass a test
pub each_of : (n : ℕ) (t c : ℕ → Bool) → ((i : ℕ) → i < n → t i ≡ true → c i ≡ true) → of_each n t c ≡ true
each_of n t c h = all_of (λ i. not (t i) || c i) n 0 (λ i g l. ⊎_elim (λ p. rw (h i (omega arith) p, or-true)) (λ p. rw p) (either (t i)))

pub each_at : (n : ℕ) (t c : ℕ → Bool) → of_each n t c ≡ true → (i : ℕ) → i < n → t i ≡ true → c i ≡ true
each_at n t c h i l p = rw p at (below (λ i. not (t i) || c i) n h i l)

-- a clause of those below n that fail a test
pub unless_of : (n : ℕ) (t c : ℕ → Bool) → ((i : ℕ) → i < n → t i ≡ false → c i ≡ true) → all (λ i. t i || c i) n 0 ≡ true
unless_of n t c h = all_of (λ i. t i || c i) n 0 (λ i g l. ⊎_elim (λ p. rw p) (λ p. rw (h i (omega arith) p, or-true)) (either (t i)))

pub unless_at : (n : ℕ) (t c : ℕ → Bool) → all (λ i. t i || c i) n 0 ≡ true → (i : ℕ) → i < n → t i ≡ false → c i ≡ true
unless_at n t c h i l p = rw p at (below (λ i. t i || c i) n h i l)

-- tests joined from the left, as they are written without parentheses
abbrev pub chained : Bool → List Bool → Bool
chained b [] = b
chained b (c ∷ cs) = chained (b && c) cs

chained_joined : (b : Bool) (cs : List Bool) → chained b cs ≡ joined (b ∷ cs)
chained_joined b [] = refl
chained_joined b (c ∷ []) = refl
chained_joined b (c ∷ (d ∷ ds)) = chained_joined (b && c) (d ∷ ds) ∙ and_assoc b c (joined (d ∷ ds))

pub parts : (b : Bool) (cs : List Bool) → chained b cs ≡ true → Each (b ∷ cs)
parts b cs h = split (b ∷ cs) (sym (chained_joined b cs) ∙ h)

pub whole : (b : Bool) (cs : List Bool) → Each (b ∷ cs) → chained b cs ≡ true
whole b cs h = chained_joined b cs ∙ join (b ∷ cs) h
