-- The table of Easter Sundays, and the Gregorian rule at each of its entries, by one test that antt computes.
-- Assumes nothing.
use mathlib.Core.Path.{◌≡◌}
use mathlib.Core.Bool.{Bool}
use mathlib.Core.List.{List, [], ◌∷◌}
use Prim.Native.Nat.{ℕ, ◌+◌, ◌≤◌, ◌<◌}
use native.Mathlib.Omega.{arith}
use lib.Dec.{eqb, eqb→eq, leb, leb→le}
use lib.ListN.{get_or}
use Rattle.laws.proofs.Table.{at, both, both_left, both_right}
use Rattle.calendar.specs.Easter.{easter}

unfoldable pub table : List ℕ
table =
    90 ∷ 110 ∷ 102 ∷ 86 ∷ 106 ∷ 98 ∷ 83 ∷ 102 ∷ 94 ∷ 114 ∷ 99 ∷ 90 ∷ 110 ∷ 95 ∷ 87 ∷ 106 ∷ 91 ∷ 111 ∷ 103 ∷ 94 ∷
    107 ∷ 99 ∷ 91 ∷ 110 ∷ 95 ∷ 87 ∷ 107 ∷ 91 ∷ 111 ∷ 103 ∷ 88 ∷ 107 ∷ 99 ∷ 84 ∷ 104 ∷ 95 ∷ 115 ∷ 100 ∷ 92 ∷ 111 ∷
    96 ∷ 88 ∷ 108 ∷ 99 ∷ 84 ∷ 104 ∷ 96 ∷ 108 ∷ 100 ∷ 92 ∷ 112 ∷ 96 ∷ 88 ∷ 108 ∷ 93 ∷ 112 ∷ 104 ∷ 89 ∷ 109 ∷ 100 ∷
    85 ∷ 105 ∷ 97 ∷ 88 ∷ 101 ∷ 93 ∷ 113 ∷ 104 ∷ 89 ∷ 109 ∷ 101 ∷ 85 ∷ 105 ∷ 97 ∷ 110 ∷ 101 ∷ 93 ∷ 113 ∷ 98 ∷ 89 ∷
    109 ∷ 94 ∷ 86 ∷ 105 ∷ 90 ∷ 110 ∷ 102 ∷ 93 ∷ 106 ∷ 98 ∷ 90 ∷ 102 ∷ 94 ∷ 114 ∷ 106 ∷ 90 ∷ 110 ∷ 102 ∷ 87 ∷ 107 ∷
    99 ∷ 84 ∷ 104 ∷ 95 ∷ 108 ∷ 100 ∷ 92 ∷ 111 ∷ 96 ∷ 88 ∷ 108 ∷ 92 ∷ 112 ∷ 104 ∷ 89 ∷ 108 ∷ 100 ∷ 85 ∷ 105 ∷ 96 ∷
    88 ∷ 101 ∷ 93 ∷ 112 ∷ 104 ∷ 89 ∷ 109 ∷ 100 ∷ 85 ∷ 105 ∷ 97 ∷ 109 ∷ 101 ∷ 93 ∷ 113 ∷ 97 ∷ 89 ∷ 109 ∷ 94 ∷ 85 ∷
    105 ∷ 90 ∷ 110 ∷ 101 ∷ 93 ∷ 106 ∷ 98 ∷ 89 ∷ 102 ∷ 94 ∷ 114 ∷ 105 ∷ 90 ∷ 110 ∷ 102 ∷ 86 ∷ 106 ∷ 98 ∷ 83 ∷ 102 ∷
    94 ∷ 114 ∷ 99 ∷ 90 ∷ 110 ∷ 95 ∷ 87 ∷ 106 ∷ 91 ∷ 111 ∷ 103 ∷ 94 ∷ 107 ∷ 99 ∷ 91 ∷ 110 ∷ 95 ∷ 87 ∷ 107 ∷ 91 ∷
    111 ∷ 103 ∷ 88 ∷ 107 ∷ 99 ∷ 84 ∷ 104 ∷ 95 ∷ 115 ∷ 100 ∷ 92 ∷ 111 ∷ 96 ∷ 88 ∷ 108 ∷ 99 ∷ 84 ∷ 104 ∷ 96 ∷ 109 ∷
    101 ∷ 93 ∷ 113 ∷ 97 ∷ 89 ∷ 109 ∷ 94 ∷ 85 ∷ 105 ∷ 90 ∷ 110 ∷ 101 ∷ 86 ∷ 106 ∷ 98 ∷ 89 ∷ 102 ∷ 94 ∷ 114 ∷ 105 ∷
    90 ∷ 110 ∷ 102 ∷ 86 ∷ 106 ∷ 98 ∷ 83 ∷ 102 ∷ 94 ∷ 114 ∷ 99 ∷ 90 ∷ 110 ∷ 95 ∷ 87 ∷ 106 ∷ 91 ∷ 111 ∷ 103 ∷ 94 ∷
    107 ∷ 99 ∷ 91 ∷ 103 ∷ 95 ∷ 87 ∷ 107 ∷ 91 ∷ 111 ∷ 103 ∷ 88 ∷ 107 ∷ 99 ∷ 84 ∷ 104 ∷ 95 ∷ 115 ∷ 100 ∷ 92 ∷ 111 ∷
    96 ∷ 88 ∷ 108 ∷ 92 ∷ 84 ∷ 104 ∷ 96 ∷ 108 ∷ 100 ∷ 92 ∷ 112 ∷ 96 ∷ 88 ∷ 108 ∷ 93 ∷ 112 ∷ 104 ∷ 89 ∷ 109 ∷ 100 ∷
    85 ∷ 105 ∷ 97 ∷ 81 ∷ 101 ∷ 93 ∷ 113 ∷ 97 ∷ 89 ∷ 109 ∷ 101 ∷ 85 ∷ 105 ∷ 97 ∷ 110 ∷ 101 ∷ 93 ∷ 106 ∷ 98 ∷ 90 ∷
    110 ∷ 95 ∷ 87 ∷ 106 ∷ 91 ∷ 111 ∷ 103 ∷ 87 ∷ 107 ∷ 99 ∷ 91 ∷ 103 ∷ 95 ∷ 87 ∷ 107 ∷ 91 ∷ 111 ∷ 96 ∷ 88 ∷ 107 ∷
    99 ∷ 84 ∷ 104 ∷ 95 ∷ 115 ∷ 100 ∷ 92 ∷ 111 ∷ 96 ∷ 88 ∷ 108 ∷ 92 ∷ 84 ∷ 104 ∷ 96 ∷ 108 ∷ 100 ∷ 85 ∷ 105 ∷ 96 ∷
    88 ∷ 101 ∷ 93 ∷ 112 ∷ 104 ∷ 89 ∷ 109 ∷ 100 ∷ 85 ∷ 105 ∷ 97 ∷ 81 ∷ 101 ∷ 93 ∷ 113 ∷ 97 ∷ 89 ∷ 109 ∷ 94 ∷ 85 ∷
    105 ∷ 90 ∷ 110 ∷ 101 ∷ 93 ∷ 106 ∷ 98 ∷ 89 ∷ 109 ∷ 94 ∷ 86 ∷ 105 ∷ 90 ∷ 110 ∷ 102 ∷ 86 ∷ 106 ∷ 98 ∷ 83 ∷ 102 ∷
    94 ∷ 114 ∷ 99 ∷ 90 ∷ 110 ∷ 95 ∷ 87 ∷ 106 ∷ 98 ∷ 83 ∷ 103 ∷ 94 ∷ 107 ∷ 99 ∷ 91 ∷ 110 ∷ 95 ∷ 87 ∷ 107 ∷ 91 ∷ []

right : ℕ → ℕ → Bool
right k x = eqb x (easter (2002 + k))

pub table_right : (k : ℕ) → k < 400 → get_or table k 0 ≡ easter (2002 + k)
unfolding table right easter
table_right k h = eqb→eq (get_or table k 0) (easter (2002 + k)) (at right table tt k h)

-- Easter Sunday is at the earliest day 81 and at the latest day 115
spring : ℕ → ℕ → Bool
spring k x = both (leb 81 x) (leb x 115)

pub easter_range : (k : ℕ) → k < 400 → (81 ≤ easter (2002 + k)) × (easter (2002 + k) ≤ 115)
unfolding table spring
easter_range k h =
    let x = get_or table k 0 in
    let t = at spring table tt k h in
    let e = table_right k h in
    let low = leb→le 81 x (both_left (leb 81 x) (leb x 115) t) in
    let high = leb→le x 115 (both_right (leb 81 x) (leb x 115) t) in
    (omega arith, omega arith)
