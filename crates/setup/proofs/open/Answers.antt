-- `setup::open` meets its contract.
-- Assumes nothing.
use lib.ListN.{length}
use Rattle.rules.specs.SetUp.{opened}
use Rattle.setup.proofs.Zeros.{zero_state}
use Rattle.setup.proofs.Ranges.{opening_in}
use borrow.Author.Rules.{rules}
use Rattle.setup.proofs.open.Goals as goal

pub set-requires : goal.set-requires
set-requires c =
    let fields = opening_in c.args.legal.now.fields c.requires c.args.legal.now.legal in
    search rules

pub set-requires-2 : goal.set-requires-2
set-requires-2 c =
    let fields = opening_in c.args.legal.now.fields c.requires c.args.legal.now.legal in
    search rules

pub returns : goal.returns
unfolding opened
returns c =
    rw (c.set-3.ensures, c.set-2.ensures, c.set.ensures, c.fill.ensures.after (λ y e. e), zero_state (length c.args.book.now))
