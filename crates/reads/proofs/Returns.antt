-- Where a request's partner stands.
-- Assumes nothing.
use mathlib.Core.Path.{◌≡◌}
use mathlib.Core.Bool.{true, false}
use mathlib.Core.Logic.{⊎_elim}
use Prim.Native.Nat.{ℕ, ◌+◌, ◌<◌}
use native.Mathlib.Omega.{arith}
use borrow.Author.Tests.{ne_eqb}
use Rattle.laws.proofs.Cases.{either}
use Rattle.book.specs.Layout.{partners}
use Rattle.book.specs.State.{State}
use Rattle.rules.specs.Requests.{is_used, is_paired}
use Rattle.rules.specs.Sound.{sound}
use Rattle.facts.proofs.Written.{sound_facts}
use Rattle.facts.proofs.Rows.{used_paired, unused_blank_lem}

-- a partner stands in a row of the book
pub partner_near : (s : State) (i : ℕ) {j : ℕ} → sound s ≡ true → i < 256 → s partners i ≡ j + 1 → j < 256
partner_near s i {j} h l e =
    let row = (sound_facts s h).row i l in
    let paired : is_paired s i ≡ true = rw (ne_eqb (s partners i) 0 (λ z. omega (arith, e, z))) in
    ⊎_elim
    (λ (u : is_used s i ≡ true). omega (arith, e, (used_paired s i row u paired).pair.partner_below))
    (λ (u : is_used s i ≡ false). omega (arith, e, unused_blank_lem s i row u partners (omega arith) (omega arith)))
    (either (is_used s i))
