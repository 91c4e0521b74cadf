-- A recall on the arrays of one account and one position, without the book.
-- Assumes nothing.
use Rattle.std.specs.Prelude.{◌≡◌, true, List, ℕ, ◌+◌, ◌*◌, ◌-◌, ◌%◌, ◌≤◌, get_or, set}
use Rattle.laws.specs.Filled.{filled}
use Rattle.book.specs.Layout.{lots, in_use, exposure_givers, positions}
use Rattle.book.specs.State.{State}
use Rattle.rules.specs.Fields.{field}
use Rattle.rules.specs.Stock.{security_set_up, account_of, position_of}

-- a nominal of one security more, or less
abbrev pub more : List ℕ → ℕ → ℕ → List ℕ
more l i n = set l i (get_or l i 0 + n)

abbrev pub less : List ℕ → ℕ → ℕ → List ℕ
less l i n = set l i (get_or l i 0 - n)

-- two times 64 nominals, added
abbrev pub added : List ℕ → List ℕ → List ℕ
added l by = filled (λ i. get_or l i 0 + get_or by i 0) 64 64

-- the giver's account with the nominal that is recalled, and the position without it
abbrev pub account_after : State → List ℕ → List ℕ
account_after s r = more (account_of s (s exposure_givers (field r 1))) (field r 2) (field r 3)

abbrev pub position_left : State → List ℕ → List ℕ
position_left s r = less (position_of s (field r 1)) (field r 2) (field r 3)

-- what all rules of a recall but the last leave: a used exposure that holds the nominal, in whole lots of a security set up
pub record Recallable (s : State) (r : List ℕ) : Type 0 where
  pub used : s in_use (field r 1) ≡ 1
  pub known : security_set_up s (field r 2) ≡ true
  pub whole : field r 3 % s lots (field r 2) ≡ 0
  pub holds : field r 3 ≤ s positions (64 * field r 1 + field r 2)
