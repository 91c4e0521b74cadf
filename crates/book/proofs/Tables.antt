-- The tables by name and by number: the groups are all of them, and a test of tables that stand one after the other.
-- Assumes nothing.
use mathlib.Core.Path.{◌≡◌, refl, sym, ◌∙◌}
use mathlib.Core.Bool.{Bool}
use mathlib.Core.Logic.{⊎_elim}
use Prim.Native.Nat.{ℕ, zero, suc}
use Rattle.laws.specs.Lists.{every}
use Rattle.laws.specs.Search.{all}
use Rattle.laws.specs.Sum.{sum}
use Rattle.laws.proofs.Cases.{either}
use Rattle.laws.proofs.Least.{all_hit, all_miss, all_none}
use Rattle.book.specs.Layout.{base_of, tables_from, TablesNamed}

pub tables_named : TablesNamed
unfolding base_of sum
tables_named = record {
  named = refl;
  head = refl;
  securities = refl;
  participants = refl;
  baskets = refl;
  requests = refl;
  exposures = refl;
  holdings = (refl, refl);
  filled = refl;
}

-- a test of tables by their list is the test of their numbers
pub every_from : (t : ℕ → Bool) (n f : ℕ) → every t (tables_from n f) ≡ all t n f
every_from t zero f = sym (all_none t f)
every_from t (suc zero) f = ⊎_elim (λ h. rw h (sym (all_hit t 0 f h ∙ all_none t (suc f)))) (λ h. rw h (sym (all_miss t 0 f h))) (either (t f))
every_from t (suc (suc n)) f =
    ⊎_elim
    (λ h. rw h (every_from t (suc n) (suc f) ∙ sym (all_hit t (suc n) f h)))
    (λ h. rw h (sym (all_miss t (suc n) f h)))
    (either (t f))
