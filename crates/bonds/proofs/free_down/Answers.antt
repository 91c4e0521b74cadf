-- `bonds::free_down` meets its contract.
-- Assumes nothing.
use Rattle.book.specs.State.{state}
use Rattle.bonds.proofs.Ready.{free_gives_back}
use Rattle.bonds.proofs.Steps.{freed_for}
use Rattle.bonds.proofs.free_down.Goals as goal

pub give_back-requires : goal.give_back-requires
give_back-requires c =
    let freed = freed_for (state c.args.book.now) c.args.e c.args.amount c.requires.1 c.row_at-position.ensures c.free-freed.ensures in
    rw freed (free_gives_back (state c.args.book.now) c.args.e c.args.amount c.requires.0)
