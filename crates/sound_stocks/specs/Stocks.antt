-- The pass over the positions: what is known of those behind it, and what a failed test shows.
-- Assumes nothing.
use Rattle.std.specs.Prelude.{Bool, true, false, not, ◌&&◌, List, ◌≡◌, ℕ, ◌+◌, ◌*◌, ◌%◌, ◌≤◌, ◌<◌, eqb, leb, length, get_or}
use Rattle.limits.specs.Limits.{greatest_nominal}
use Rattle.laws.specs.Search.{all}
use Rattle.laws.specs.Sum.{sum}
use Rattle.book.specs.Layout.{lots, in_use, exposure_givers, exposure_amounts, accounts}
use Rattle.book.specs.State.{State}
use Rattle.rules.specs.Stock.{position_from}
use Rattle.rules.specs.ByRow.{sound_position, sound_positions, sound_holdings}

-- an account by itself is within the limit
abbrev pub small_account : State → ℕ → ℕ → Bool
small_account s p i = leb (s accounts (64 * p + i)) greatest_nominal

abbrev pub small_accounts : State → ℕ → Bool
small_accounts s p = all (small_account s p) 64 0

-- a nominal is in whole lots of a security that is set up
abbrev pub in_lots : State → ℕ → ℕ → Bool
in_lots s i n = not (eqb (s lots i) 0) && eqb (n % s lots i) 0

-- the two clauses that the pass tests
abbrev pub sound_stocks : State → Bool
sound_stocks s = all (sound_positions s) 64 0 && all (sound_holdings s) 32 0

-- an exposure that may hold something, and its giver
pub record Stocking (s : State) (p e : ℕ) : Type 0 where
  pub giver_below : p < 32
  pub below : e < 64
  pub used : s in_use e ≡ 1
  pub giver : s exposure_givers e ≡ p
  pub amount : s exposure_amounts e ≡ 0 → ⊥

-- what each participant has of each security in the exposures below n stands at 64 p + i; their positions are in whole lots, and
-- nobody has more than the limit so far
pub record Held (s : State) (n : ℕ) (held : List ℕ) : Type 0 where
  pub long : length held ≡ 2048
  pub each : (p i : ℕ) → p < 32 → i < 64 → get_or held (64 * p + i) 0 ≡ sum (position_from s p i) n
  pub within : (p i : ℕ) → p < 32 → i < 64 → s accounts (64 * p + i) + get_or held (64 * p + i) 0 ≤ greatest_nominal
  pub lots : (e : ℕ) → e < n → sound_positions s e ≡ true

-- on the way: of the exposure e the nominals of the securities below n are added too
pub record Adding (s : State) (p e n : ℕ) (held : List ℕ) : Type 0 where
  pub own : Stocking s p e
  pub long : length held ≡ 2048
  pub done : (i : ℕ) → i < n → get_or held (64 * p + i) 0 ≡ sum (position_from s p i) (e + 1)
  pub rest : (i : ℕ) → n ≤ i → i < 64 → get_or held (64 * p + i) 0 ≡ sum (position_from s p i) e
  pub others : (q i : ℕ) → q < 32 → i < 64 → (q ≡ p → ⊥) → get_or held (64 * q + i) 0 ≡ sum (position_from s q i) e
  pub within : (q i : ℕ) → q < 32 → i < 64 → s accounts (64 * q + i) + get_or held (64 * q + i) 0 ≤ greatest_nominal
  pub lots : (i : ℕ) → i < n → sound_position s e i ≡ true
  pub before : (d : ℕ) → d < e → sound_positions s d ≡ true

-- a test on the way: where it holds, A does; where it fails, the clauses do not hold
pub record Judged (s : State) (r : Bool) (A : Type 0) : Type 0 where
  pub pass : r ≡ true → A
  pub fail : r ≡ false → sound_stocks s ≡ false
