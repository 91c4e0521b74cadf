-- `calendar::age_of` meets its contract.
-- Assumes nothing.
use Prim.Native.Nat.{◌+◌, ◌-◌}
use mathlib.Core.Path.{◌≡◌, ◌∙◌}
use native.Mathlib.Omega.{arith}
use borrow.Author.Rules.{rules}
use Rattle.std.proofs.lemmas.Iterator.{YieldsList-from_range}
use Rattle.std.proofs.lemmas.Iterator.Consumers.{count_from_yields_List, YieldsList-from_filter}
use Rattle.laws.proofs.Ranges.{length_filter_range}
use Rattle.calendar.specs.Target.{open_day, age}
use Rattle.calendar.proofs.age_of.Goals as goal

pub returns : goal.returns
unfolding age
returns c =
    let n : c.args.today + 1 - (c.args.quote + 1) ≡ c.args.today - c.args.quote = omega arith in
    count_from_yields_List _ _ c.count.ensures.ran
    (YieldsList-from_filter _ open_day (YieldsList-from_range (c.args.quote + 1) (c.args.today + 1) (c.args.today - c.args.quote) c.filter.ensures.source n) c.filter.ensures.closure (λ x b q k. search rules))
    ∙ length_filter_range open_day _ _
