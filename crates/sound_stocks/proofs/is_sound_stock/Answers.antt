-- `sound_stocks::is_sound_stock` meets its contract.
-- Assumes nothing.
use Rattle.sound_stocks.proofs.Stocks.{no_stock, stocking}
use borrow.Author.Rules.{rules}
use Rattle.sound_stocks.proofs.is_sound_stock.Goals as goal

pub returns-then-amount-eq0 : goal.returns-then-amount-eq0
returns-then-amount-eq0 c = search no_stock

pub are_sound_nominals-requires : goal.are_sound_nominals-requires
are_sound_nominals-requires c = (search stocking, search rules)
