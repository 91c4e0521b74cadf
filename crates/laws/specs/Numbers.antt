-- Big-endian numbers: bytes, the highest first.
-- Assumes nothing.
use Rattle.std.specs.Prelude.{List, [], ◌∷◌, ◌++◌, ℕ, zero, suc, ◌+◌, ◌*◌, ◌/◌, ◌%◌, get_or}

-- the number in the w bytes of b from a place on
unfoldable pub number_at : List ℕ → ℕ → ℕ → ℕ
number_at b at zero = 0
number_at b at (suc w) = number_at b at w * 256 + get_or b (at + w) 0

-- the w bytes of a number
unfoldable pub bytes_of : ℕ → ℕ → List ℕ
bytes_of zero x = []
bytes_of (suc w) x = bytes_of w (x / 256) ++ (x % 256 ∷ [])
