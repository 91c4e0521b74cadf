-- What a move of some bonds leaves, or of none.
-- Assumes nothing.
use mathlib.Core.Path.{◌≡◌, sym, ◌∙◌}
use mathlib.Core.Bool.{Bool, true, false}
use mathlib.Core.List.{List}
use Prim.Native.Nat.{ℕ, ◌*◌}
use Rattle.book.specs.Layout.{positions}
use Rattle.book.specs.State.{State}
use Rattle.book.specs.Fits.{Lowerable}
use Rattle.rules.specs.Marking.{moved}
use Rattle.rules.specs.Stock.{pledge, give_back}
use Rattle.marking_laws.specs.Pass.{is_empty}
use Rattle.marking_laws.proofs.Moved.{moved_none, took_in, gave_back, pledge_nothing, give_nothing}

module _ (s : State) (e : ℕ) (by : List ℕ) {b : Bool} (h : b ≡ is_empty by) where
  module _ (f : b ≡ true) where
    pub none_back : (s ≡ give_back s e by) × (false ≡ moved s s e)
    none_back = (sym (give_nothing s e by (sym h ∙ f)), rw (moved_none s e))

    pub none_pledged : (s ≡ pledge s e by) × (false ≡ moved s s e)
    none_pledged = (sym (pledge_nothing s e by (sym h ∙ f)), rw (moved_none s e))

  module _ (f : b ≡ false) {after : State} where
    pub some_back : Lowerable s positions (64 * e) by → after ≡ give_back s e by → (after ≡ give_back s e by) × (true ≡ moved s after e)
    some_back k q = (q, rw (q, gave_back s e by k, sym h ∙ f))

    pub some_pledged : after ≡ pledge s e by → (after ≡ pledge s e by) × (true ≡ moved s after e)
    some_pledged q = (q, rw (q, took_in s e by, sym h ∙ f))
