-- `due_pairs::order_of` meets its contract: day and number are of four bytes each.
-- Assumes nothing.
use native.Mathlib.Omega.{arith}
use Rattle.book.proofs.Images.{state_fits}
use Rattle.book.specs.State.{state}
use Rattle.due_pairs.proofs.Returns.{Dated}
use Rattle.book.specs.Layout.{numbers, settlements}
use Rattle.due_pairs.proofs.order_of.Goals as goal
use Rattle.due_pairs.proofs.order_of.Goals.{Start}

-- the two numbers are of four bytes each
small : (s : Start) → Dated (state s.args.book.now) s.args.i
small s =
    let fits = state_fits s.args.book.now (omega arith) s.fits-book in
    record { day = fits.fits settlements s.args.i s.requires; number = fits.fits numbers s.args.i s.requires }

pub overflow_mul-result : goal.overflow_mul-result
overflow_mul-result c = let dated = small (goal.at.overflow_mul-result c).Start in omega (arith, c.get.ensures)

pub overflow_add-result : goal.overflow_add-result
overflow_add-result c = let dated = small (goal.at.overflow_add-result c).Start in omega (arith, c.get.ensures, c.get-2.ensures)
