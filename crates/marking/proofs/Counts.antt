-- What loops over the exposures keep: flags, counts and sums so far.
-- Assumes nothing.
use mir.Val.{bool_byte}
use mathlib.Core.Path.{◌≡◌, refl, sym, ap, ◌∙◌}
use mathlib.Core.Bool.{Bool, true, false, ◌||◌, cond}
use mathlib.Core.List.{List}
use mathlib.Core.Logic.{⊎_elim}
use Prim.Native.Nat.{ℕ, zero, suc, ◌+◌, ◌≤◌, ◌<◌}
use native.Mathlib.Nat.{add-zero, zero-add, add-suc, suc-add}
use native.Mathlib.Numerals.{add-one}
use native.Mathlib.Omega.{arith}
use lib.ListN.{length, get_or, set}
use lib.Seq.{get_or-set_same, get_or-set_other}
use borrow.Author.Count.{below_more}
use Rattle.laws.specs.Search.{count}
use Rattle.laws.specs.Sum.{sum}
use Rattle.laws.proofs.Cases.{counted, either}
use Rattle.laws.proofs.Least.{count_hit, count_miss, count_none}
use Rattle.laws.proofs.Sum.{sum_next}

-- one flag more
pub flags_next : (test : ℕ → Bool) (flags : List Bool) (e : ℕ) {b : Bool} → e < length flags → b ≡ test e → ((j : ℕ) → j < e → get_or flags j false ≡ test j)
    → (j : ℕ) → j < e + 1 → get_or (set flags e b) j false ≡ test j
flags_next test flags e {b} l q h =
    below_more (λ j. get_or (set flags e b) j false ≡ test j) e
    (λ j k. let ne : j ≡ e → ⊥ = omega arith in get_or-set_other flags e j b false ne ∙ h j k)
    (get_or-set_same flags e b false l ∙ q)

-- a sum on the way: none yet, and one number more
pub sum_none : (f : ℕ → ℕ) → 0 ≡ sum f 0
unfolding sum
sum_none f = refl

pub sum_more : (f : ℕ → ℕ) (e : ℕ) {n x : ℕ} → n ≡ sum f e → x ≡ f e → n + x ≡ sum f (e + 1)
sum_more f e h q = rw (sum_next f e, h, q)

-- one number more at the end of a count
count_last : (test : ℕ → Bool) (n i : ℕ) → count test (suc n) i ≡ count test n i + cond (test (i + n)) 1 0
count_last test zero i =
    let here : cond {A = ℕ} (test (i + 0)) 1 0 ≡ cond {A = ℕ} (test i) 1 0 = ap {B = ℕ} (λ (k : ℕ). cond (test k) 1 0) (add-zero i) in
    ⊎_elim
    (λ e. omega (arith, here, ap {B = ℕ} (λ (b : Bool). cond b 1 0) e, count_hit test 0 i e, count_none test i, count_none test (suc i)))
    (λ e. omega (arith, here, ap {B = ℕ} (λ (b : Bool). cond b 1 0) e, count_miss test 0 i e, count_none test i, count_none test (suc i)))
    (either (test i))
count_last test (suc n) i =
    let later : count test (suc n) (suc i) ≡ count test n (suc i) + cond (test (i + suc n)) 1 0 = rw (add-suc, ← suc-add i n) (count_last test n (suc i)) in
    ⊎_elim
    (λ e. omega (arith, later, count_hit test (suc n) i e, count_hit test n i e))
    (λ e. omega (arith, later, count_miss test (suc n) i e, count_miss test n i e))
    (either (test i))

-- two tests alike over a range count alike
pub count_same : (t u : ℕ → Bool) (n i : ℕ) → ((j : ℕ) → i ≤ j → j < i + n → t j ≡ u j) → count t n i ≡ count u n i
count_same t u zero i h = count_none t i ∙ sym (count_none u i)
count_same t u (suc n) i h =
    let later = count_same t u n (suc i) (λ j g l. h j (omega arith) (omega arith)) in
    let here = h i (omega arith) (omega arith) in
    ⊎_elim
    (λ e. count_hit t n i e ∙ ap suc later ∙ sym (count_hit u n i (sym here ∙ e)))
    (λ e. count_miss t n i e ∙ later ∙ sym (count_miss u n i (sym here ∙ e)))
    (either (t i))

-- a flag from before, or a test
pub or_first : {b flag : Bool} (test : Bool) → b ≡ true → flag ≡ true → b ≡ (flag || test)
or_first test p q = rw q p

pub or_second : {b flag test : Bool} → b ≡ test → flag ≡ false → b ≡ (flag || test)
or_second p q = rw q p

-- a test as a number
pub byte_le : (b : Bool) {x : ℕ} → x ≡ bool_byte b → x ≤ 1
byte_le true q = omega (arith, q)
byte_le false q = omega (arith, q)

-- so a loop counts
pub count_more : (test : ℕ → Bool) (e : ℕ) {n x : ℕ} {b : Bool} → n ≡ count test e 0 → x ≡ bool_byte b → b ≡ test e → n + x ≡ count test (e + 1) 0
count_more test e {n} {x} {b} h q p =
    let here : x ≡ cond (test e) 1 0 = counted b q p in
    let last : count test (suc e) 0 ≡ count test e 0 + cond (test e) 1 0 = rw zero-add at (count_last test e 0) in
    rw (add-one, last, h, here)
