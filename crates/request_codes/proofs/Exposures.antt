-- A FOP that pairs, and finds neither its exposure nor a free row.
-- Assumes nothing.
use mathlib.Core.Path.{◌≡◌, sym, ◌∙◌}
use mathlib.Core.Bool.{Bool, true, not}
use mathlib.Core.List.{List}
use Prim.Native.Nat.{ℕ}
use Rattle.std.specs.Prelude.{Option}
use Rattle.std.specs.Option.{is_some}
use Rattle.laws.specs.Found.{found}
use Rattle.book.specs.State.{State}
use Rattle.request_search.proofs.Nowhere.{nowhere}
use Rattle.rules.specs.Outcome.{lowest}
use Rattle.rules.specs.Requests.{free_exposure}
use Rattle.rules.specs.Requesting.{exposure_of, pairs_now}
use Rattle.request_codes.specs.Rules.{exposure_rules}

pub none_free : (s : State) (r : List ℕ) {e x : Option ℕ} {b d p : Bool} → e ≡ found 64 (free_exposure s) → is_some e ≡ not b → b ≡ true
    → x ≡ found 64 (exposure_of s r) → is_some x ≡ not d → d ≡ true → p ≡ pairs_now s 6 r → p ≡ true → 15 ≡ lowest (exposure_rules s r)
none_free s r e b h x d g p q = rw (sym p ∙ q, nowhere _ x d g, nowhere _ e b h)
