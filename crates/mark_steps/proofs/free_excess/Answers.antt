-- `mark_steps::free_excess` meets its contract: Free tells the value of what is left.
-- Assumes nothing.
use Rattle.bonds.proofs.Rows.{bounded, row_within}
use Rattle.book.specs.State.{state}
use Rattle.rules.specs.Marking.{excess_back}
use Rattle.mark_steps.proofs.Steps.{free_empty, unused_step, excess_gives, excess_step, excess_missing}
use Rattle.mark_steps.proofs.Values.{missing_unused}
use Rattle.mark_steps.proofs.free_excess.Goals as goal

pub returns-then-get-ne1 : goal.returns-then-get-ne1
returns-then-get-ne1 c =
    (unused_step c.requires.0 excess_back c.get.ensures c.if-get-ne1.true, missing_unused (state c.args.book.now) c.args.e c.get.ensures c.if-get-ne1.true)

pub free-freed-requires : goal.free-freed-requires
free-freed-requires c =
    (bounded c.requires.0, row_within c.requires.0 c.requires.1 c.row_at-position.ensures)

pub give_any_back-moved-requires : goal.give_any_back-moved-requires
give_any_back-moved-requires c =
    (excess_gives c.requires.0 c.requires.1 c.fits-book c.get.ensures c.if-get-ne1.false c.row_at-position.ensures c.get-amount.ensures c.free-freed.ensures, free_empty _ _ _ c.free-freed.ensures)

pub returns : goal.returns
returns c = (
  excess_step c.requires.0 c.requires.1 c.fits-book c.get.ensures c.if-get-ne1.false c.row_at-position.ensures c.get-amount.ensures c.free-freed.ensures c.give_any_back-moved.array_long c.give_any_back-moved.ensures,
  excess_missing c.requires.0 c.requires.1 c.fits-book c.get.ensures c.if-get-ne1.false c.row_at-position.ensures c.get-amount.ensures c.free-freed.ensures c.give_any_back-moved.ensures.0 c.saturating_sub.ensures,
)
