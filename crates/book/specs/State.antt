-- The book as a state: a number for each row of each table. The steps and codes above speak of numbers; only the call and the reads as a whole speak of bytes again.
-- Assumes nothing.
use Rattle.std.specs.Prelude.{Bool, true, ◌&&◌, cond, List, [], ◌∷◌, ◌++◌, ℕ, zero, suc, ◌+◌, ◌-◌, ◌/◌, ◌%◌, eqb, leb, ltb, get_or}
use Rattle.laws.specs.Filled.{filled}
use Rattle.laws.specs.Lists.{every}
use Rattle.laws.specs.Numbers.{number_at, bytes_of}
use Rattle.book.specs.Layout.{rows_of, width_of, place_of, table_count, security_tables}

-- the number in the row i of the table f
abbrev pub State : Type 0
State = ℕ → ℕ → ℕ

-- the state that the bytes of a book stand for; a row that the layout does not have is 0
unfoldable pub state : List ℕ → State
state b f i = cond (ltb i (rows_of f)) (number_at b (place_of f i) (width_of f)) 0

-- the state with x in the row i of the table f
abbrev pub put : State → ℕ → ℕ → ℕ → State
put s f i x g j = cond (eqb g f) (cond (eqb j i) x (s g j)) (s g j)

-- a row in several tables: one number written in each
abbrev pub put_row : State → List ℕ → ℕ → List ℕ → State
put_row s [] i xs = s
put_row s (f ∷ fs) i [] = s
put_row s (f ∷ fs) i (x ∷ xs) = put_row (put s f i x) fs i xs

-- the row holds nothing: 0 written in each
abbrev pub clear_row : State → List ℕ → ℕ → State
clear_row s [] i = s
clear_row s (f ∷ fs) i = clear_row (put s f i 0) fs i

-- its numbers; that they are these, those of another row, all 0
abbrev pub row_in : State → List ℕ → ℕ → List ℕ
row_in s [] i = []
row_in s (f ∷ fs) i = s f i ∷ row_in s fs i

abbrev pub row_is : State → List ℕ → ℕ → List ℕ → Bool
row_is s [] i xs = true
row_is s (f ∷ fs) i [] = true
row_is s (f ∷ []) i (x ∷ xs) = eqb (s f i) x
row_is s (f ∷ (g ∷ gs)) i (x ∷ xs) = eqb (s f i) x && row_is s (g ∷ gs) i xs

abbrev pub rows_alike : State → List ℕ → ℕ → ℕ → Bool
rows_alike s fs i j = every (λ f. eqb (s f i) (s f j)) fs

abbrev pub row_blank : State → List ℕ → ℕ → Bool
row_blank s fs i = every (λ f. eqb (s f i) 0) fs

-- the 64 numbers of a table from a row on: an account, a position
abbrev pub row_at : State → ℕ → ℕ → List ℕ
row_at s f start = filled (λ i. s f (start + i)) 64 64

-- the row j is one of the 64 from a row on
abbrev pub within : ℕ → ℕ → Bool
within start j = leb start j && ltb j (start + 64)

-- the state with each of those 64 numbers raised, or lowered, by the number of a list
abbrev pub raised : State → ℕ → ℕ → List ℕ → State
raised s f start by g j = cond (eqb g f && within start j) (s g j + get_or by (j - start) 0) (s g j)

abbrev pub lowered : State → ℕ → ℕ → List ℕ → State
lowered s f start by g j = cond (eqb g f && within start j) (s g j - get_or by (j - start) 0) (s g j)

-- the securities' four columns of 64 numbers: lots, prices, haircuts, quote days
abbrev pub columns_of : State → List ℕ
columns_of s = filled (λ k. s (get_or security_tables (k / 64) 0) (k % 64)) 256 256

-- the bytes of the rows of a table below n
unfoldable pub rows_image : State → ℕ → ℕ → List ℕ
rows_image s f zero = []
rows_image s f (suc n) = rows_image s f n ++ bytes_of (width_of f) (s f n)

-- the bytes of the tables below n
unfoldable pub image_to : State → ℕ → List ℕ
image_to s zero = []
image_to s (suc n) = image_to s n ++ rows_image s n (rows_of n)

-- the bytes of a book in that state
abbrev pub image : State → List ℕ
image s = image_to s table_count
