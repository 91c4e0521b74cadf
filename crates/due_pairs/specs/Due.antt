-- A row that is due, its place in the order and its key, the keys of all that are due, and the least key from a bound on.
-- Assumes nothing.
use Rattle.std.specs.Prelude.{◌≡◌, Bool, ◌&&◌, cond, List, [], ◌∷◌, ◌++◌, ℕ, Option, zero, suc, ◌+◌, ◌*◌, ◌≤◌, eqb, leb, min, length}
use Rattle.std.specs.List.{filter, reduce}
use Rattle.book.specs.Layout.{numbers, request_kinds, settlements}
use Rattle.book.specs.State.{State}
use Rattle.rules.specs.Settlement.{is_due}

-- a row of a kind that is due
abbrev pub due_of : State → ℕ → ℕ → Bool
due_of s kind i = eqb (s request_kinds i) kind && is_due s i

-- a row's place in the order: by settlement date, then by number
abbrev pub order_of : State → ℕ → ℕ
order_of s i = s settlements i * 4294967296 + s numbers i

-- a row's place in the order and the row itself as one number
abbrev pub key_of : ℕ → ℕ → ℕ
key_of order i = order * 256 + i

-- the keys of the rows below n that pass a test, in the order of the rows
unfoldable pub keys_of : (ℕ → Bool) → (ℕ → ℕ) → ℕ → List ℕ
keys_of t order zero = []
keys_of t order (suc i) = cond (t i) (keys_of t order i ++ (key_of (order i) i ∷ [])) (keys_of t order i)

-- a list is the keys of the rows of a kind below i that are due
pub record KeysBelow (s : State) (kind i : ℕ) (keys : List ℕ) : Type 0 where
  pub few : length keys ≤ i
  pub all : keys ≡ keys_of (due_of s kind) (order_of s) i

-- the least of some keys from a bound on
abbrev pub least_from : ℕ → List ℕ → Option ℕ
least_from bound keys = reduce min (filter (leb bound) keys)
