-- `lines::move_to_front` meets its contract.
-- Assumes nothing.
use Rattle.std.proofs.Common.{◌≡◌, ◌∙◌, ap, arith, take, drop, length, ◌-◌, length-drop, length-take-le}
use lib.Seq.{take_at}
use Rattle.std.proofs.lemmas.Slice.{between_is}
use Rattle.lines.proofs.move_to_front.Goals as goal

pub returns : goal.returns
returns c =
    let old = c.args.bytes.now in
    let from = c.args.from in
    let end = c.args.end in
    let count = end - from in
    let part = drop from old in
    let rest = length-drop from old in
    let size : length (take count part) ≡ count = length-take-le count part (omega arith) in
    (omega arith, ap (take count) c.copy_within.ensures.after ∙ take_at (take count part) _ count size ∙ between_is old from end)
