-- How a pair settles, as code and proofs have it: the amount and the state after it apart, in one form for returns and FOPs.
-- Assumes nothing.
use Rattle.std.specs.Prelude.{◌≡◌, Bool, true, false, cond, [], ◌∷◌, ◌++◌, ℕ, ◌+◌, ◌-◌, ◌<◌, eqb, ltb}
use Rattle.limits.specs.Limits.{greatest_exposure}
use Rattle.book.specs.Layout.{tolerance, request_kinds, baskets_or_exposures, pair_partials, exposure_amounts}
use Rattle.book.specs.State.{State, put}
use Rattle.rules.specs.Outcome.{Step, Event, settled, returned}
use Rattle.rules.specs.Requests.{is_used, is_paired, rest_of, exposure_of_fop}
use Rattle.rules.specs.Settlement.{is_due, both_settled, return_amount, return_settled}
use Rattle.rules.specs.Stock.{eligible_for, pick_for, pledge}

-- a paired row of a kind
pub record PairOf (s : State) (kind i : ℕ) : Type 0 where
  pub below : i < 256
  pub used : is_used s i ≡ true
  pub paired : is_paired s i ≡ true
  pub kind_is : s request_kinds i ≡ kind

-- the later row of a live pair of a kind that is due
pub record Due (s : State) (kind i : ℕ) : Type 0 where
  pub below : i < 256
  pub kind_is : s request_kinds i ≡ kind
  pub due : is_due s i ≡ true

-- the value that a FOP's Pick finds
abbrev pub found : State → ℕ → ℕ
found s i = (pick_for s (exposure_of_fop s i) (eligible_for s (exposure_of_fop s i)) (rest_of s i)).value

-- what a FOP settles: 0 where it waits or nothing moves
unfoldable pub fop_amount : State → ℕ → ℕ
fop_amount s i =
    cond (ltb greatest_exposure (s exposure_amounts (exposure_of_fop s i) + rest_of s i)) 0
    (cond (ltb (rest_of s i - found s i) (s tolerance 0)) (rest_of s i)
    (cond (eqb (s pair_partials i) 1) (found s i) 0))

-- the state after a FOP
unfoldable pub fop_settled : State → ℕ → State
fop_settled s i =
    let e = exposure_of_fop s i in
    let x = fop_amount s i in
    pledge (put (both_settled s i x) exposure_amounts e (s exposure_amounts e + x)) e (pick_for s e (eligible_for s e) (rest_of s i)).nominals

-- how the pairs of a kind settle: what settles of one, the state after it, and its exposure
pub record Way : Type 0 where
  pub is_fop : Bool
  pub amount : State → ℕ → ℕ
  pub after : State → ℕ → State
  pub exposure : State → ℕ → ℕ

abbrev pub return_way : Way
return_way = record { is_fop = false; amount = return_amount; after = return_settled; exposure = λ s i. s baskets_or_exposures i }

abbrev pub fop_way : Way
fop_way = record { is_fop = true; amount = fop_amount; after = fop_settled; exposure = exposure_of_fop }

-- 7 is a return, else a FOP
abbrev pub way_of : ℕ → Way
way_of kind = cond (eqb kind 7) return_way fop_way

-- what the ledger is told of an exposure
abbrev pub told : Way → ℕ → ℕ → Event
told y e x = cond y.is_fop (settled e x) (returned e x)

-- one pair: nothing changes where nothing settles
unfoldable pub settle_by : Way → Step → ℕ → Step
settle_by y w i =
    let s = w.state in
    let x = y.amount s i in
    cond (eqb x 0) w (record {
      a = cond y.is_fop (w.a + 1) w.a;
      b = cond y.is_fop w.b (w.b + 1);
      m = w.m + x;
      state = y.after s i;
      events = w.events ++ (told y (y.exposure s i) x ∷ []);
    })

-- the state that one pair leaves
abbrev pub left : Way → State → ℕ → State
left y s i = cond (eqb (y.amount s i) 0) s (y.after s i)
