-- Document 01, "Steps": Pick amount X from a giver's account. The outcome "holds one nominal for each of the 64 securities".
-- Assumes nothing.
use Rattle.std.specs.Prelude.{Bool, not, ◌&&◌, cond, List, ℕ, zero, suc, ◌+◌, ◌-◌, min, eqb, get_or, set, replicate}
use Rattle.securities.specs.Security.{security_at}
use Rattle.parcels.specs.Lots.{no_parcel, parcel_to_pick}
use Rattle.picking.specs.declared.Outcome.{Outcome}
use Rattle.parcels.specs.declared.Parcel.{Parcel}

-- nothing picked
abbrev pub nothing : Outcome
nothing = record { nominals = replicate 64 0; value = 0; count = 0 }

-- the outcome with a parcel of security i: its value is found, and it counts where it is not empty
abbrev pub with_parcel : ℕ → Parcel → Outcome → Outcome
with_parcel i p o = record { nominals = set o.nominals i p.nominal; value = o.value + p.value; count = o.count + min p.nominal 1 }

-- a test that leaves one security out
abbrev pub but_not : ℕ → (ℕ → Bool) → ℕ → Bool
but_not left test i = test i && not (eqb i left)

module _ (columns account : List ℕ) (eligible : ℕ → Bool) where
  -- from security i, where it is eligible: as many whole lots as are worth no more than what remains
  unfoldable pub parcel_from : ℕ → ℕ → Parcel
  parcel_from i remains = cond (eligible i) (parcel_to_pick (security_at columns i) (get_or account i 0) remains) no_parcel

  -- "by rising number": the outcome of the securities below n; "what remains of X, which that value then lowers"
  unfoldable pub picked_below : ℕ → ℕ → Outcome
  picked_below amount zero = nothing
  picked_below amount (suc i) = with_parcel i (parcel_from i (amount - (picked_below amount i).value)) (picked_below amount i)

  -- Pick
  abbrev pub picked : ℕ → Outcome
  picked amount = picked_below amount 64
