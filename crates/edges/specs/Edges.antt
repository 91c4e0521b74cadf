-- Document 01, "Edges": the cases marked P, gathered as one table.
-- Assumes nothing.
use Rattle.std.specs.Prelude.{◌≡◌, Bool, true, ◌&&◌, List, [], ◌∷◌, ℕ, eqb}
use Rattle.calendar.specs.Gregorian.{one_if}
use Rattle.calendar.specs.Target.{open_day, next_open_day, age}
use Rattle.valuation.specs.Value.{value}

-- what the definitions give, and what document 01 says
pub record Case : Type 0 where
  pub gives : ℕ
  pub says : ℕ

abbrev case : ℕ → ℕ → Case
case g s = record { gives = g; says = s }

abbrev worth : ℕ → ℕ → ℕ → ℕ
worth nominal price haircut = value (record { price = price; haircut = haircut }) nominal

-- 1 for an open day, 0 for a closed one
abbrev is_open : ℕ → ℕ
is_open d = one_if (open_day d)

unfoldable pub edges : List Case
edges =
    -- "value of 1,000 at par, haircut 500, is 95,000"
    case (worth 1000 1000000 500) 95000
    -- "of 1 at price 5,000, haircut 0, is 0", "of 2 is 1"
    ∷ case (worth 1 5000 0) 0
    ∷ case (worth 2 5000 0) 1
    -- "of 500,000,000 at 3,000,000, haircut 0, is 150,000,000,000"
    ∷ case (worth 500000000 3000000 0) 150000000000
    -- "Day 87 (Good Friday) is closed, 86 open, 90 closed, 91 open"
    ∷ case (is_open 87) 0
    ∷ case (is_open 86) 1
    ∷ case (is_open 90) 0
    ∷ case (is_open 91) 1
    -- "Quoted on 86, aged 1 on 91"
    ∷ case (age 86 91) 1
    -- "After 24 December 2002 comes 27 December": days 357 and 360
    ∷ case (next_open_day 357) 360
    ∷ []

abbrev all_hold : List Case → Bool
all_hold [] = true
all_hold (c ∷ cs) = eqb c.gives c.says && all_hold cs

-- every case of the table holds
abbrev pub EdgesHold : Type 0
EdgesHold = all_hold edges ≡ true
