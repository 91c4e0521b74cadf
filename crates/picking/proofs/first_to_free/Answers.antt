-- `picking::first_to_free` meets its contract.
-- Assumes nothing.
use borrow.Author.Tests.{lt-ltb, le-ltb}
use Rattle.picking.proofs.first_to_free.Goals as goal

pub returns-then-worth-exposure : goal.returns-then-worth-exposure
returns-then-worth-exposure c = rw (lt-ltb c.args.worth c.args.exposure c.if-worth-exposure.true)

pub returns-else-worth-exposure : goal.returns-else-worth-exposure
returns-else-worth-exposure c = rw (le-ltb c.args.worth c.args.exposure c.if-worth-exposure.false)
