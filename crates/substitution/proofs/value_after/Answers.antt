-- `substitution::value_after` meets its contract.
-- Assumes nothing.
use Rattle.substitution.proofs.Accepting.{bounded_in, sum_within, value_found, worth_le}
use Rattle.securities.specs.Position.{nominals_of}
use Rattle.securities.specs.Bounds.{Within}
use Rattle.substitution.proofs.value_after.Goals as goal
use Rattle.substitution.proofs.value_after.Goals.{After-add_nominals-position}

-- the position after the recall is within its bounds
new-within : (c : After-add_nominals-position) → Within (nominals_of c.add_nominals-position.result)
new-within c = rw c.add_nominals-position.ensures (sum_within c.requires.0 c.fits-book c.position_left-left.ensures c.substitutes-found.ensures)

pub add_nominals-position-requires : goal.add_nominals-position-requires
add_nominals-position-requires c = sum_within c.requires.0 c.fits-book c.position_left-left.ensures c.substitutes-found.ensures

pub worth_of-requires : goal.worth_of-requires
worth_of-requires c = (bounded_in c.requires.0 c.requires.1, new-within (goal.at.worth_of-requires c).After-add_nominals-position)

pub returns : goal.returns
returns c =
    let k = c.requires in (
      value_found k.0 k.1 c.position_left-left.ensures c.substitutes-found.ensures c.add_nominals-position.ensures c.worth_of.ensures,
      worth_le c.args.columns.now c.add_nominals-position.result (bounded_in k.0 k.1) (new-within (goal.at.returns c).After-add_nominals-position) c.worth_of.ensures,
    )
