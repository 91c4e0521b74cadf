-- Giving out an exposure and entering rows write into other tables: the order does not matter.
-- Assumes nothing.
use mathlib.Core.Path.{◌≡◌, refl, sym, ap, ◌∙◌, fun_ext}
use mathlib.Core.Bool.{Bool, true, false, not, ◌&&◌, cond}
use mathlib.Core.List.{List, [], ◌∷◌, ◌++◌}
use Prim.Native.Nat.{ℕ, ◌+◌}
use native.Mathlib.Decide.{ℕ_discrete}
use lib.Dec.{ltb}
use borrow.Author.Tests.{eq-eqb, ne_eqb, not-true}
use Rattle.laws.proofs.Cases.{and_left, and_right}
use Rattle.book.specs.Layout.{next_number, numbers, partners, pair_partials, request_tables, exposure_tables}
use Rattle.book.specs.State.{State, put, put_row}
use Rattle.rules.specs.Requests.{free_row}
use Rattle.rules.specs.Requesting.{taker_follows, earliest_equal, exposure_given, partial_mark, with_row, with_taker, with_equal, waiting, rows_entered}
use Rattle.rules.specs.Fields.{side_in, giver_in, taker_in, basket_or_exposure_in, closing_in, reference_in, terms_in}
use Rattle.request_laws.proofs.Covering.{tables_differ}
use Rattle.request_laws.proofs.Giving.{is_exposure_table}

-- two puts into two tables
put_swap : (s : State) (f i x g j y : ℕ) → (f ≡ g → ⊥) → put (put s g j y) f i x ≡ put (put s f i x) g j y
put_swap s f i x g j y apart = fun_ext (λ h. fun_ext (λ k. each h k))
  where
    each : (h k : ℕ) → put (put s g j y) f i x h k ≡ put (put s f i x) g j y h k
    each h k =
        elim (ℕ_discrete h f) [
          | yes p ↦ rw (eq-eqb h f p, ne_eqb h g (λ q. apart (sym p ∙ q)))
          | no p ↦ rw (ne_eqb h f p)
        ]

-- a change of the state that goes past any put into a table of the exposures
abbrev Passes : (State → State) → Type 0
Passes way = (g j y : ℕ) (t : State) → is_exposure_table g ≡ true → way (put t g j y) ≡ put (way t) g j y

passes_put : (f i x : ℕ) → is_exposure_table f ≡ false → Passes (λ t. put t f i x)
passes_put f i x other g j y t h = put_swap t f i x g j y (λ q. tables_differ is_exposure_table g f h other (sym q))

-- one after another
then : (first second : State → State) → Passes first → Passes second → Passes (λ t. second (first t))
then first second p q g j y t h = ap second (p g j y t h) ∙ q g j y (first t) h

-- tables of one sort
abbrev each : (ℕ → Bool) → List ℕ → Bool
each test [] = true
each test (f ∷ fs) = test f && each test fs

passes_row : (fs xs : List ℕ) (i : ℕ) → each (λ f. not (is_exposure_table f)) fs ≡ true → Passes (λ t. put_row t fs i xs)
passes_row [] xs i h g j y t k = refl
passes_row (f ∷ fs) [] i h g j y t k = refl
passes_row (f ∷ fs) (x ∷ xs) i h g j y t k =
    let others = each (λ f. not (is_exposure_table f)) fs in
    let this = and_left (not (is_exposure_table f)) others h in
    then (λ t. put t f i x) (λ t. put_row t fs i xs) (passes_put f i x (not-true (is_exposure_table f) this)) (passes_row fs xs i (and_right (not (is_exposure_table f)) others h)) g j y t k

-- so an exposure may be given out before it
row_first : (way : State → State) → Passes way → (fs xs : List ℕ) (e : ℕ) → each is_exposure_table fs ≡ true → (s : State) → put_row (way s) fs e xs ≡ way (put_row s fs e xs)
row_first way passes [] xs e h s = refl
row_first way passes (f ∷ fs) [] e h s = refl
row_first way passes (f ∷ fs) (x ∷ xs) e h s =
    let others = each is_exposure_table fs in
    ap (λ (t : State). put_row t fs e xs) (sym (passes f e x s (and_left (is_exposure_table f) others h))) ∙ row_first way passes fs xs e (and_right (is_exposure_table f) others h) (put s f e x)

-- whichever way is chosen
chosen : (f : State → State) (b c : Bool) (x y z : State) {x' y' z' : State} → f x ≡ x' → f y ≡ y' → f z ≡ z' → f (cond b x (cond c y z)) ≡ cond b x' (cond c y' z')
chosen f true c x y z p q w = p
chosen f false true x y z p q w = q
chosen f false false x y z p q w = w

module _ (s : State) (r : List ℕ) (e : ℕ) where
  abbrev n : ℕ
  n = s next_number 0

  abbrev i : ℕ
  i = free_row s

  abbrev mark : ℕ
  mark = partial_mark s r

  given_past : (way : State → State) → Passes way → exposure_given (way s) r e ≡ way (exposure_given s r e)
  given_past way passes = row_first way passes exposure_tables (1 ∷ giver_in r ∷ taker_in r ∷ basket_or_exposure_in r ∷ closing_in 6 r ∷ 0 ∷ []) e refl s

  entry_past : (l n₁ a p m : ℕ) → Passes (λ t. with_row t 6 r l n₁ a p m)
  unfolding with_row
  entry_past l n₁ a p m = passes_row request_tables (n₁ ∷ 6 ∷ a ∷ (terms_in 6 r ++ (reference_in 6 r ∷ 0 ∷ p ∷ m ∷ 0 ∷ 0 ∷ []))) l refl

  taker_past : exposure_given (with_taker s 6 r) r e ≡ with_taker (exposure_given s r e) 6 r
  unfolding with_taker
  taker_past =
      let j = free_row (put s numbers i n) in
      let first : State → State = λ t. with_row t 6 r i n 0 (j + 1) mark in
      let second : State → State = λ t. with_row t 6 r j (n + 1) 1 (i + 1) mark in
      given_past (λ t. put (second (first t)) next_number 0 (n + 2))
      (then (λ t. second (first t)) (λ t. put t next_number 0 (n + 2)) (then first second (entry_past i n 0 (j + 1) mark) (entry_past j (n + 1) 1 (i + 1) mark)) (passes_put next_number 0 (n + 2) refl))

  equal_past : (j : ℕ) → exposure_given (with_equal s 6 r j) r e ≡ with_equal (exposure_given s r e) 6 r j
  unfolding with_equal
  equal_past j =
      let first : State → State = λ t. with_row t 6 r i n (side_in r) (j + 1) mark in
      let mated : State → State = λ t. put_row t (partners ∷ pair_partials ∷ []) j ((i + 1) ∷ mark ∷ []) in
      given_past (λ t. put (mated (first t)) next_number 0 (n + 1))
      (then (λ t. mated (first t)) (λ t. put t next_number 0 (n + 1)) (then first mated (entry_past i n (side_in r) (j + 1) mark) (passes_row (partners ∷ pair_partials ∷ []) ((i + 1) ∷ mark ∷ []) j refl)) (passes_put next_number 0 (n + 1) refl))

  waiting_past : exposure_given (waiting s 6 r) r e ≡ waiting (exposure_given s r e) 6 r
  unfolding waiting
  waiting_past =
      given_past (λ t. put (with_row t 6 r i n (side_in r) 0 0) next_number 0 (n + 1))
      (then (λ t. with_row t 6 r i n (side_in r) 0 0) (λ t. put t next_number 0 (n + 1)) (entry_past i n (side_in r) 0 0) (passes_put next_number 0 (n + 1) refl))

  pub given_first : exposure_given (rows_entered s 6 r) r e ≡ rows_entered (exposure_given s r e) 6 r
  unfolding earliest_equal
  given_first =
      let j = earliest_equal s 6 r in
      chosen (λ t. exposure_given t r e) (taker_follows s r) (ltb j 256) (with_taker s 6 r) (with_equal s 6 r j) (waiting s 6 r) taker_past (equal_past j) waiting_past
