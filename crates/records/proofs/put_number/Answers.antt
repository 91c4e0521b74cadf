-- `records::put_number` meets its contract, at each width.
-- Assumes nothing.
use mathlib.Core.Path.{◌≡◌}
use native.Mathlib.Omega.{arith}
use Rattle.laws.proofs.Patches.{put_none, put_width}
use Rattle.record_kinds.proofs.Fields.{width_eight}
use Rattle.records.proofs.put_number.Goals as goal

pub put_number-requires-in_default : goal.put_number-requires-in_default
put_number-requires-in_default c = let e : c.args.w ≡ 8 = search width_eight in (omega arith, omega arith)

pub returns-in-0 : goal.returns-in-0
returns-in-0 c = search put_none

pub returns-in-1 : goal.returns-in-1
returns-in-1 c = search (put_width 1)

pub returns-in-2 : goal.returns-in-2
returns-in-2 c = search (put_width 2)

pub returns-in-4 : goal.returns-in-4
returns-in-4 c = search (put_width 4)

pub returns-in_default : goal.returns-in_default
returns-in_default c = search (put_width 8, width_eight)
