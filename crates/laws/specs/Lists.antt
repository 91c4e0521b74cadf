-- Lists of numbers: a test of each, those below a number that pass a test, and a list put in order.
-- Assumes nothing.
use Rattle.std.specs.Prelude.{Bool, true, ◌&&◌, cond, List, [], ◌∷◌, ◌++◌, ℕ, zero, suc}

-- every number of a list passes the test
abbrev pub every : (ℕ → Bool) → List ℕ → Bool
every t [] = true
every t (x ∷ []) = t x
every t (x ∷ (y ∷ ys)) = t x && every t (y ∷ ys)

-- the numbers below n that pass the test, rising
unfoldable pub those : (ℕ → Bool) → ℕ → List ℕ
those t zero = []
those t (suc n) = those t n ++ cond (t n) (n ∷ []) []

-- a number put into a list before the first that it comes before, and a whole list put in order so
unfoldable pub inserted : (ℕ → ℕ → Bool) → ℕ → List ℕ → List ℕ
inserted before x [] = x ∷ []
inserted before x (y ∷ ys) = cond (before x y) (x ∷ y ∷ ys) (y ∷ inserted before x ys)

unfoldable pub in_order : (ℕ → ℕ → Bool) → List ℕ → List ℕ
in_order before [] = []
in_order before (x ∷ xs) = inserted before x (in_order before xs)
