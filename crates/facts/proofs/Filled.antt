-- Lists filled by rules that agree.
-- Assumes nothing.
use mathlib.Core.Path.{◌≡◌, refl}
use Prim.Native.Nat.{ℕ, zero, suc, ◌<◌}
use native.Mathlib.Omega.{arith}
use Rattle.laws.specs.Filled.{filled}

pub filled_same : (f g : ℕ → ℕ) (n k : ℕ) → ((i : ℕ) → i < k → f i ≡ g i) → filled f n k ≡ filled g n k
unfolding filled
filled_same f g n zero h = refl
filled_same f g n (suc k) h = rw (filled_same f g n k (λ i l. h i (omega arith)), h k (omega arith))
