-- A request row that is read once.
-- Assumes nothing.
use Rattle.std.specs.Prelude.{Bool, ◌&&◌, ◌≡◌, ◌<◌, leb}
use Rattle.book.specs.Layout.{numbers, request_kinds, sides, givers, takers, baskets_or_exposures, amounts, settlements, closings, settled_amounts, partners, pair_partials, cancels, ends}
use Rattle.book.specs.State.{State}
use Rattle.sound_fields.specs.declared.Request as declared

-- the fields are those of the book's row
pub record Reads (s : State) (q : declared.Request) : Type 0 where
  pub below : q.row < 256
  pub number : q.number ≡ s numbers q.row
  pub kind : q.kind ≡ s request_kinds q.row
  pub side : q.side ≡ s sides q.row
  pub giver : q.giver ≡ s givers q.row
  pub taker : q.taker ≡ s takers q.row
  pub object : q.object ≡ s baskets_or_exposures q.row
  pub amount : q.amount ≡ s amounts q.row
  pub settlement : q.settlement ≡ s settlements q.row
  pub closing : q.closing ≡ s closings q.row
  pub settled : q.settled ≡ s settled_amounts q.row
  pub partner : q.partner ≡ s partners q.row
  pub partial : q.partial ≡ s pair_partials q.row
  pub cancel : q.cancel ≡ s cancels q.row
  pub end : q.end ≡ s ends q.row

-- `sound_marks` of what was read
abbrev pub marks_of : declared.Request → Bool
marks_of q = leb q.settled q.amount && (leb q.partial 1 && (leb q.cancel 1 && leb q.end 1))
