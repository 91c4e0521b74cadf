-- `mark_steps::search_missing` meets its contract: a number that is missing tells that the exposure is used.
-- Assumes nothing.
use mathlib.Core.Path.{sym}
use mathlib.Core.Bool.{true}
use borrow.Author.Tests.{eq-eqb, ne_eqb}
use Rattle.bonds.proofs.Ready.{good_pickable}
use Rattle.bonds.proofs.Rows.{bounded, good_of, row_within}
use Rattle.book.specs.State.{state}
use Rattle.rules.specs.Marking.{shortfall_in}
use Rattle.mark_steps.specs.Stepped.{Stepped}
use Rattle.mark_steps.proofs.Moving.{none_pledged, some_pledged}
use Rattle.mark_steps.proofs.Steps.{pick_empty, covered_step, found_pledges, search_step, search_missing_is}
use Rattle.mark_steps.proofs.Values.{lacking_used}
use Rattle.mark_steps.proofs.search_missing.Goals as goal
use Rattle.mark_steps.proofs.search_missing.Goals.{After-pledge}

-- what was found has come in
taken_in : (c : After-pledge)
    → Stepped shortfall_in c.args.prices.now.columns c.args.book.now c.pledge.new.book c.args.e true
taken_in c =
    search_step c.requires.0 c.requires.1 c.fits-book c.requires.2 c.if-missing-eq0.false c.pick_for-found.ensures c.pledge.array_long
    (some_pledged (state c.args.book.now) c.args.e c.pick_for-found.result.nominals (sym (pick_empty _ _ _ _ c.pick_for-found.ensures)) (ne_eqb c.pick_for-found.result.count 0 c.if-found-eq0.false) c.pledge.ensures)

pub returns-then-missing-eq0 : goal.returns-then-missing-eq0
returns-then-missing-eq0 c =
    (covered_step c.requires.0 c.requires.1 c.fits-book c.requires.2 c.if-missing-eq0.true, c.requires.2)

pub pick_for-found-requires : goal.pick_for-found-requires
pick_for-found-requires c =
    let m = c.requires.0 in
    (good_pickable _ _ (good_of m c.fits-book) c.requires.1 (lacking_used (state c.args.book.now) c.args.e c.requires.2 c.if-missing-eq0.false), record { columns = m.securities; fresh = c.requires.3 })

pub returns-then-found-eq0 : goal.returns-then-found-eq0
returns-then-found-eq0 c = (
  search_step c.requires.0 c.requires.1 c.fits-book c.requires.2 c.if-missing-eq0.false c.pick_for-found.ensures c.requires.0.long
      (none_pledged (state c.args.book.now) c.args.e c.pick_for-found.result.nominals (sym (pick_empty _ _ _ _ c.pick_for-found.ensures)) (eq-eqb c.pick_for-found.result.count 0 c.if-found-eq0.true)),
  c.requires.2,
)

pub pledge-requires : goal.pledge-requires
pledge-requires c =
    found_pledges c.requires.0 c.requires.1 c.fits-book c.requires.2 c.if-missing-eq0.false c.pick_for-found.ensures

pub worth_of-value-requires : goal.worth_of-value-requires
worth_of-value-requires c =
    let m = (taken_in (goal.at.worth_of-value-requires c).After-pledge).book in
    (bounded m, row_within m c.requires.1 c.row_at-position.ensures)

pub returns : goal.returns
returns c =
    let t = taken_in (goal.at.returns c).After-pledge in
    (t, search_missing_is c.requires.0 c.requires.1 c.fits-book c.requires.2 c.if-missing-eq0.false c.pick_for-found.ensures t c.row_at-position.ensures c.worth_of-value.ensures c.get-exposure.ensures c.saturating_sub.ensures)
