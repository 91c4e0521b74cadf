-- The kinds of pairs, by their numbers.
-- Assumes nothing.
use Rattle.std.specs.Prelude.{ℕ}
use Rattle.rules.specs.Fields.{fop_kind, return_kind}
use Rattle.settlement.specs.declared.PairKind.{PairKind}
use Rattle.settlement.specs.declared.PairKind.TheVariants.{Fop, Return}

-- the number of a kind in a request's row
abbrev pub pair_number : PairKind → ℕ
pair_number Fop = fop_kind
pair_number Return = return_kind
