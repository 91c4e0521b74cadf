-- `lines::is_awaited` meets its contract.
-- Assumes nothing.
use Rattle.std.proofs.Common.{sym, ◌∙◌}
use Rattle.lines.proofs.Cuts.{none_awaited, kind_awaited, is_length}
use Rattle.lines.proofs.is_awaited.Goals as goal

pub returns-in-Some : goal.returns-in-Some
returns-in-Some c = c.is_some.ensures ∙ is_length c.length_of.result _ c.length_of.ensures.some c.length_of.ensures.none ∙ kind_awaited c.args.bytes.now (sym c.in-Some.ensures.value)

pub returns-in-None : goal.returns-in-None
returns-in-None c = none_awaited c.args.bytes.now (sym c.in-None.ensures.value)
