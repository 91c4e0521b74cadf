-- The pairs of a kind one after the other: the state and the totals that the code carries along, and those of the definition. The
-- code keeps no events.
-- Assumes nothing.
use Rattle.std.specs.Prelude.{◌≡◌, [], ℕ, ◌+◌, ◌*◌, ◌≤◌}
use Rattle.limits.specs.Limits.{greatest_amount}
use Rattle.eligibility.specs.Fresh.{SamePrices}
use Rattle.book.specs.State.{State}
use Rattle.facts.specs.Good.{Good}
use Rattle.rules.specs.Outcome.{Step}
use Rattle.rules.specs.Settlement.{due_rows, settle_each}
use Rattle.settlement_laws.specs.Ways.{way_of, settle_by}
use Rattle.totals.specs.declared.Totals.{Totals}

-- on the way with a state and totals
abbrev pub begun : State → Totals → Step
begun s t = record { a = t.a; b = t.b; m = t.m; state = s; events = [] }

-- the same but for the events
pub record Alike (w v : Step) : Type 0 where
  pub state : w.state ≡ v.state
  pub fops : w.a ≡ v.a
  pub returns : w.b ≡ v.b
  pub cents : w.m ≡ v.m

-- all pairs of a kind, in their order
abbrev pub all_of : ℕ → State → Totals → Step
all_of kind s t = settle_each (settle_by (way_of kind)) (due_rows s kind) (begun s t)

-- totals of n pairs at most, each of 10^12 cents at most; and totals after n more pairs
pub record Room (n : ℕ) (t : Totals) : Type 0 where
  pub fops : t.a ≤ n
  pub returns : t.b ≤ n
  pub cents : t.m ≤ greatest_amount * n

pub record Within (before : Totals) (n : ℕ) (after : Totals) : Type 0 where
  pub fops : after.a ≤ before.a + n
  pub returns : after.b ≤ before.b + n
  pub cents : after.m ≤ before.m + greatest_amount * n

-- what settling all pairs of a kind leaves: the definition's state and totals, a good book, and the prices as they were
pub record Passed (kind : ℕ) (s : State) (t : Totals) (after : State) (total : Totals) : Type 0 where
  pub reached : Alike (begun after total) (all_of kind s t)
  pub good : Good after
  pub prices : SamePrices s after
  pub within : Within t 256 total
