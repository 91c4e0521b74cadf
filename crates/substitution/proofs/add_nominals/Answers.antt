-- `substitution::add_nominals` meets its contract: each sum is made.
-- Assumes nothing.
use Prim.Native.Nat.{◌+◌}
use borrow.Author.Rules.{rules}
use lib.ListN.{get_or}
use Rattle.book.proofs.Filling.{filled_from_fn}
use Rattle.std.proofs.iter.Serving.{serving}
use Rattle.substitution.proofs.Accepting.{sum_small}
use Rattle.substitution.proofs.add_nominals.Goals as goal

pub returns : goal.returns
returns c =
    filled_from_fn _ _ (λ j. get_or c.args.nominals.now j 0 + get_or c.args.by.now j 0) 64 (λ i y q l k. search rules) c.from_fn.result c.from_fn.ensures.items

pub from_fn-requires : goal.from_fn-requires
from_fn-requires c = grind (serving, sum_small c.args.nominals.now c.args.by.now c.requires)
