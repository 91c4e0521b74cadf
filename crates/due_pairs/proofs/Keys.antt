-- Keys: one more of them, and that they fit.
-- Assumes nothing.
use mathlib.Core.Path.{◌≡◌, refl, sym, ◌∙◌}
use mathlib.Core.Bool.{Bool, true, false, ◌||◌}
use mathlib.Core.List.{List, [], ◌∷◌, ◌++◌}
use Prim.Native.Nat.{ℕ, ◌+◌, ◌*◌, ◌≤◌, ◌<◌}
use native.Mathlib.Numerals.{add-one}
use native.Mathlib.Omega.{arith}
use lib.Dec.{eqb, ltb}
use lib.ListN.{length-append}
use borrow.Author.Tests.{ltb-false, eqb-false, not-true}
use Rattle.laws.proofs.Cases.{and_right, or_left}
use Rattle.calendar.specs.Target.{last_day, open_day}
use Rattle.book.specs.Layout.{numbers, request_kinds, settlements}
use Rattle.book.specs.State.{State}
use Rattle.facts.specs.Good.{Good}
use Rattle.facts.proofs.Rows.{head_facts, used_fields}
use Rattle.rules.specs.Requests.{is_used}
use Rattle.rules.specs.Settlement.{is_due}
use Rattle.due_pairs.specs.Due.{due_of, order_of, keys_of, KeysBelow}
use Rattle.due_pairs.proofs.Returns.{due_used}

-- an order is small enough for a key
open_le : (d : ℕ) → open_day d ≡ true → d ≤ last_day
unfolding open_day
open_le d h = ltb-false last_day d (or_left (ltb last_day d) _ (not-true (ltb last_day d || _) h))

pub number_small : (s : State) (i : ℕ) → Good s → i < 256 → is_used s i ≡ true → (0 < s numbers i) × (s numbers i < 1000000000)
number_small s i g l u =
    let n = eqb-false (s numbers i) 0 (not-true (eqb (s numbers i) 0) u) in
    (omega arith, omega (arith, (used_fields s i (g.facts.row i l) u).number_below, (head_facts s g.facts.head).next_high))

order_small : (s : State) (i : ℕ) → Good s → i < 256 → is_used s i ≡ true → order_of s i < 72057594037927935
order_small s i g l u = omega (arith, (number_small s i g l u).1, open_le (s settlements i) (used_fields s i (g.facts.row i l) u).settlement)

pub due_small : (s : State) (kind i : ℕ) → Good s → i < 256 → due_of s kind i ≡ true → order_of s i < 72057594037927935
due_small s kind i g l h = order_small s i g l (due_used s i (and_right (eqb (s request_kinds i) kind) (is_due s i) h))

-- one row more, in the code's i + 1
module _ {s : State} {kind i : ℕ} {keys : List ℕ} (c : KeysBelow s kind i keys) {d : Bool} (dq : d ≡ due_of s kind i) where
  pub not_noted : d ≡ false → KeysBelow s kind (i + 1) keys
  unfolding keys_of
  not_noted h =
      let none : due_of s kind i ≡ false = sym dq ∙ h in
      record { few = omega (arith, c.few); all = rw (add-one, none) c.all }

  pub noted : d ≡ true → {order : ℕ} → order ≡ order_of s i → {after : List ℕ} → after ≡ keys ++ (order * 256 + i) ∷ [] → KeysBelow s kind (i + 1) after
  unfolding keys_of
  noted h oq aq =
      let is : due_of s kind i ≡ true = sym dq ∙ h in
      record { few = rw (aq, length-append) (omega (arith, c.few)); all = rw (add-one i, is, aq, c.all, oq) }

pub none_noted : (s : State) (kind : ℕ) {keys : List ℕ} → keys ≡ [] → KeysBelow s kind 0 keys
unfolding keys_of
none_noted s kind e = rw e (record { few = omega arith; all = refl })
