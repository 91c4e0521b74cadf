-- `records::number_at` meets its contract, at each width.
-- Assumes nothing.
use mathlib.Core.Path.{◌≡◌}
use native.Mathlib.Omega.{arith}
use Rattle.laws.proofs.Numbers.{number_first}
use Rattle.record_kinds.proofs.Fields.{width_eight}
use Rattle.records.proofs.number_at.Goals as goal

pub number_at-requires-in_default : goal.number_at-requires-in_default
number_at-requires-in_default c = let e : c.args.w ≡ 8 = search width_eight in (omega arith, omega arith)

pub returns-in-0 : goal.returns-in-0
returns-in-0 c = let e : c.args.w ≡ 0 = omega arith in rw e (search number_first)

pub returns-in-1 : goal.returns-in-1
returns-in-1 c = let e : c.args.w ≡ 1 = omega arith in rw e c.number_at.ensures.0

pub returns-in-2 : goal.returns-in-2
returns-in-2 c = let e : c.args.w ≡ 2 = omega arith in rw e c.number_at-in-2.ensures.0

pub returns-in-4 : goal.returns-in-4
returns-in-4 c = let e : c.args.w ≡ 4 = omega arith in rw e c.number_at-in-4.ensures.0

pub returns-in_default : goal.returns-in_default
returns-in_default c = let e : c.args.w ≡ 8 = search width_eight in rw e c.number_at-in_default.ensures.0
