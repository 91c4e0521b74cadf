-- The exposure of a FOP pair: a row is given out where none has its key.
-- Assumes nothing.
use mathlib.Core.Path.{◌≡◌}
use mathlib.Core.Bool.{Bool, true, not}
use mathlib.Core.List.{List}
use Prim.Native.Nat.{ℕ}
use borrow.Author.Tests.{lt-ltb}
use Rattle.std.specs.Prelude.{Option, Some}
use Rattle.std.specs.Option.{is_some, IsSome}
use Rattle.laws.specs.Found.{found}
use Rattle.laws.proofs.Found.{found_some}
use Rattle.book.specs.State.{State}
use Rattle.record_kinds.specs.Numbered.{kind_number}
use Rattle.record_kinds.specs.declared.Kind.{Kind}
use Rattle.record_kinds.specs.declared.Kind.TheVariants.{Fop}
use Rattle.rules.specs.Requests.{free_exposure}
use Rattle.rules.specs.Requesting.{exposure_of, exposure_given}
use Rattle.request_search.proofs.Nowhere.{nowhere}
use Rattle.request_entry.specs.Entering.{lacks_exposure, ExposureRoom, with_exposure}

module _ (s : State) (r : List ℕ) {kind : Kind} (k : kind ≡ Fop) {x : Option ℕ} {b : Bool} (xq : x ≡ found 64 (exposure_of s r)) (bq : is_some x ≡ not b) (none : b ≡ true)
    {e : Option ℕ} (eq : e ≡ found 64 (free_exposure s)) where
  lacks : lacks_exposure s (kind_number kind) r ≡ true
  lacks = rw (k, nowhere _ xq bq none)

  pub row_left : ExposureRoom s (kind_number kind) r → IsSome e
  row_left m = rw (eq, lt-ltb (free_exposure s) 64 (m.spare lacks))

  pub new_exposure : {i : ℕ} {t : State} → e ≡ Some i → t ≡ exposure_given s r i → t ≡ with_exposure s (kind_number kind) r
  new_exposure is tq = rw (lacks, ← (found_some 64 (free_exposure s) eq is).0) tq
