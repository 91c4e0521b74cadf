-- `request_search::free_rows` meets its contract.
-- Assumes nothing.
use mathlib.Core.Path.{refl, ◌∙◌}
use mathlib.Core.Bool.{Bool}
use Prim.Native.Nat.{ℕ}
use lib.Dec.{eqb}
use borrow.Author.Rules.{rules}
use Rattle.std.proofs.lemmas.Iterator.{YieldsList-from_range}
use Rattle.std.proofs.lemmas.Iterator.Consumers.{count_from_yields_List, YieldsList-from_filter}
use Rattle.laws.proofs.Ranges.{length_filter_range}
use Rattle.book.specs.Layout.{numbers}
use Rattle.book.specs.State.{state}
use Rattle.request_search.proofs.free_rows.Goals as goal

pub returns : goal.returns
returns c =
    let free : ℕ → Bool = λ i. eqb (state c.args.book.now numbers i) 0 in
    count_from_yields_List _ _ c.count.ensures.ran (YieldsList-from_filter _ free (YieldsList-from_range 0 256 256 c.filter.ensures.source refl) c.filter.ensures.closure (λ x b q k. search rules))
    ∙ length_filter_range free _ _
