-- Chains of calls over the numbers from a up to b: what `all`, `any`, `find`, `count` and `sum` give, in the words of specs/.
-- Assumes nothing.
use mathlib.Core.Path.{◌≡◌, refl, sym, ap, ◌∙◌}
use mathlib.Core.Bool.{Bool, true, false, not}
use mathlib.Core.List.{map, [], ◌∷◌}
use mathlib.Core.Logic.{⊎_elim}
use Prim.Native.Nat.{ℕ, zero, suc, ◌+◌, ◌-◌, ◌≤◌, ◌<◌}
use native.Mathlib.Decide.{dec_le}
use native.Mathlib.Nat.{eq-or-lt_of_le, lt_of_not-le}
use native.Mathlib.Numerals.{add-one}
use native.Mathlib.Omega.{arith}
use lib.Dec.{leb}
use borrow.Author.Tests.{le-leb, lt-leb}
use lib.ListN.{length, get_or}
use denote.Ref.{Bor}
use denote.Param.Members.{Mut}
use Rattle.std.specs.Prelude.{List, Option, Some, None}
use Rattle.std.specs.declared.ops.Range.{Range}
use Rattle.std.specs.Bool.{⊤}
use Rattle.std.specs.Cmp.{nat_cmp_is}
use Rattle.std.specs.Fn.{Called, CalledAt}
use Rattle.std.specs.Ordering.{is_le, nat_cmp}
use Rattle.std.proofs.Common.{Less, Equal, Greater}
use Rattle.std.specs.Range.{range_inclusive_start, range_inclusive_end, range_inclusive_exhausted, range_inclusive_contains}
use Rattle.std.specs.Iterator.{YieldsThen}
use Rattle.std.specs.List.{FoldsTo, filter, list_all, list_any, range_with_len, sum as list_sum}
use Rattle.std.specs.Option.{MatchOption, unwrap_or}
use Rattle.std.proofs.iter.Yields.{nat_range_steps}
use Rattle.std.proofs.lemmas.Iterator.{YieldsList-from_range, first_from_Range}
use Rattle.std.proofs.lemmas.Iterator.Search.{all_from_yields_List, any_from_yields_List}
use Rattle.std.proofs.lemmas.List.Sums.{sum_by-cons}
use Rattle.laws.specs.Search.{between, least, count, all}
use Rattle.laws.specs.Sum.{sum}
use Rattle.laws.proofs.Cases.{either}
use Rattle.laws.proofs.Least.{least_none, least_hit, least_miss, count_hit, count_miss, count_none, all_hit, all_miss, all_none}

-- the list of a range and the definitions, which take a range by its length and its start
module _ (t : ℕ → Bool) where
  pub list_all_range : (n a : ℕ) → list_all t (range_with_len a n) ≡ all t n a
  list_all_range zero a = sym (all_none t a)
  list_all_range (suc n) a =
      let rest = list_all_range n (suc a) in
      ⊎_elim
      (λ (p : t a ≡ true). let e : list_all t (range_with_len a (suc n)) ≡ list_all t (range_with_len (suc a) n) = rw (p, add-one) in e ∙ rest ∙ sym (all_hit t n a p))
      (λ (p : t a ≡ false). let e : list_all t (range_with_len a (suc n)) ≡ false = rw p in e ∙ sym (all_miss t n a p))
      (either (t a))

  pub length_filter_range : (n a : ℕ) → length (filter t (range_with_len a n)) ≡ count t n a
  length_filter_range zero a = sym (count_none t a)
  length_filter_range (suc n) a =
      let rest = length_filter_range n (suc a) in
      ⊎_elim
      (λ (p : t a ≡ true). let e : length (filter t (range_with_len a (suc n))) ≡ suc (length (filter t (range_with_len (suc a) n))) = rw (p, add-one) in e ∙ ap suc rest ∙ sym (count_hit t n a p))
      (λ (p : t a ≡ false). let e : length (filter t (range_with_len a (suc n))) ≡ length (filter t (range_with_len (suc a) n)) = rw (p, add-one) in e ∙ rest ∙ sym (count_miss t n a p))
      (either (t a))

pub list_any_range : (t : ℕ → Bool) (n a : ℕ) → list_any t (range_with_len a n) ≡ not (all (λ i. not (t i)) n a)
list_any_range t zero a = rw (all_none (λ i. not (t i)) a)
list_any_range t (suc n) a =
    let rest = list_any_range t n (suc a) in
    let u : ℕ → Bool = λ i. not (t i) in
    ⊎_elim
    (λ (p : t a ≡ true). let e : list_any t (range_with_len a (suc n)) ≡ true = rw p in e ∙ sym (ap not (all_miss u n a (ap not p))))
    (λ (p : t a ≡ false). let e : list_any t (range_with_len a (suc n)) ≡ list_any t (range_with_len (suc a) n) = rw (p, add-one) in e ∙ rest ∙ sym (ap not (all_hit u n a (ap not p))))
    (either (t a))

-- ---- `all` and `any`
module _ {F : Type 0} {g : Mut F (ℕ × Unit {0}) Bool} {a b : ℕ} (t : ℕ → Bool) (u : Range ℕ) (f : F) (r : Bool) where
  pub all_over_range : (xs : List ℕ) × (o : Option ℕ) × (j : F) × YieldsThen nat_range_steps (record { start = a; end = b }) xs o u × FoldsTo (λ p x q. Called g p (x, tt) true q) f xs j × MatchOption o (r ≡ true) (λ x. (r ≡ false) × ((h : F) × Called g j (x, tt) false h))
      → ((x : ℕ) (y : Bool) (q : F) → Called g f (x, tt) y q → (q ≡ f) × (y ≡ t x)) → r ≡ all t (b - a) a
  all_over_range ran here = all_from_yields_List t u f r ran (YieldsList-from_range a b (b - a) refl refl) here ∙ list_all_range t (b - a) a

  pub any_over_range : (xs : List ℕ) × (o : Option ℕ) × (j : F) × YieldsThen nat_range_steps (record { start = a; end = b }) xs o u × FoldsTo (λ p x q. Called g p (x, tt) false q) f xs j × MatchOption o (r ≡ false) (λ x. (r ≡ true) × ((h : F) × Called g j (x, tt) true h))
      → ((x : ℕ) (y : Bool) (q : F) → Called g f (x, tt) y q → (q ≡ f) × (y ≡ t x)) → r ≡ not (all (λ i. not (t i)) (b - a) a)
  any_over_range ran here = any_from_yields_List t u f r ran (YieldsList-from_range a b (b - a) refl refl) here ∙ list_any_range t (b - a) a

-- ---- `find`
-- the least number at which the test holds, where it fails before it
pub least_at : (t : ℕ → Bool) (i n a : ℕ) → a ≤ i → i < a + n → t i ≡ true → ((k : ℕ) → a ≤ k → k < i → t k ≡ false) → least t n a ≡ i
least_at t i zero a h l e before = absurd (omega arith)
least_at t i (suc n) a h l e before =
    let later = least_at t i n (suc a) in
    ⊎_elim
    (λ (q : a ≡ i). least_hit t n a (ap t q ∙ e) ∙ q)
    (λ (m : a < i). least_miss t n a (before a (omega arith) m) ∙ later (omega arith) (omega arith) e (λ k p q. before k (omega arith) q))
    (eq-or-lt_of_le h)

pub least_nowhere : (t : ℕ → Bool) (n a : ℕ) → ((k : ℕ) → a ≤ k → k < a + n → t k ≡ false) → least t n a ≡ a + n
least_nowhere t zero a before = least_none t a ∙ omega arith
least_nowhere t (suc n) a before =
    let later : least t n (suc a) ≡ suc a + n = least_nowhere t n (suc a) (λ k p q. before k (omega arith) (omega arith)) in
    least_miss t n a (before a (omega arith) (omega arith)) ∙ later ∙ omega arith

pub least_le : (t : ℕ → Bool) (n a : ℕ) → least t n a ≤ a + n
least_le t zero a = omega (arith, least_none t a)
least_le t (suc n) a =
    let later = least_le t n (suc a) in
    ⊎_elim (λ p. omega (arith, least_hit t n a p)) (λ p. omega (arith, least_miss t n a p, later)) (either (t a))

-- what `find` gives: the least, or nothing where the test holds nowhere
abbrev pub IsLeastOf : (ℕ → Bool) → ℕ → ℕ → Option ℕ → Type 0
IsLeastOf t a b r = MatchOption r (least t (b - a) a ≡ b) (λ i. (least t (b - a) a ≡ i) × (a ≤ i) × (i < b) × (t i ≡ true))

module _ {F : Type 0} {g : Mut F (Bor ℕ × Unit {0}) Bool} {a b : ℕ} (t : ℕ → Bool) (u : Range ℕ) (f : F) (r : Option ℕ) (h : a ≤ b) where
  pub find_over_range : (xs : List ℕ) × (j : F) × YieldsThen nat_range_steps (record { start = a; end = b }) xs r u × FoldsTo (λ p x q. CalledAt g p x false q) f xs j × MatchOption r ⊤ (λ x. (h : F) × CalledAt g j x true h)
      → ((x : ℕ) (y : Bool) (q : F) → CalledAt g f x y q → (q ≡ f) × (y ≡ t x)) → IsLeastOf t a b r
  find_over_range ran here =
      cases r (first_from_Range (record { start = a; end = b }) u f r (λ x. t x ≡ true) (λ x. t x ≡ false) ran (λ x q k. sym (here x true q k).1) (λ x q k. ((here x false q k).0, sym (here x false q k).1)))
    where
      cases : (o : Option ℕ) → MatchOption o ((k : ℕ) → a ≤ k → k < b → t k ≡ false) (λ i. (a ≤ i) × (i < b) × (t i ≡ true) × ((k : ℕ) → a ≤ k → k < i → t k ≡ false)) → IsLeastOf t a b o
      cases None n = least_nowhere t (b - a) a (λ k p q. n k p (omega arith)) ∙ omega arith
      cases (Some i) n = (least_at t i (b - a) a n.0 (omega (arith, n.1)) n.2 n.3, n.0, n.1, n.2)

pub unwrap_least : (t : ℕ → Bool) (a b : ℕ) (r : Option ℕ) → IsLeastOf t a b r → unwrap_or r b ≡ least t (b - a) a
unwrap_least t a b None h = sym h
unwrap_least t a b (Some i) h = sym h.0

-- ---- `sum` of a range from 0
pub sum_map_range : (f : ℕ → ℕ) (n a : ℕ) → list_sum (map f (range_with_len a n)) + sum f a ≡ sum f (a + n)
unfolding sum
sum_map_range f zero a = let e : a + 0 ≡ a = omega arith in rw e (omega arith)
sum_map_range f (suc n) a =
    let rest = sum_map_range f n (suc a) in
    let first : list_sum (map f (range_with_len a (suc n))) ≡ f a + list_sum (map f (range_with_len (suc a) n)) = sum_by-cons (λ x. x) (f a) (map f (range_with_len (a + 1) n)) ∙ rw add-one in
    let next : sum f (suc a) ≡ sum f a + f a = refl in
    let e : a + suc n ≡ suc a + n = omega arith in
    rw e (omega (arith, rest, first, next))

pub sum_over_range : (f : ℕ → ℕ) (n : ℕ) → list_sum (map f (range_with_len 0 n)) ≡ sum f n
unfolding sum
sum_over_range f n =
    let whole = sum_map_range f n 0 in
    let e : 0 + n ≡ n = omega arith in
    let r = rw e at whole in
    omega (arith, r)

-- ---- `contains` of a range with both ends
module _ (low high x : ℕ) where
  le_of_cmp : (a b : ℕ) → is_le (nat_cmp a b) ≡ leb a b
  le_of_cmp a b = elim (dec_le a b) [
    | yes h ↦
        ⊎_elim
        (λ (e : a ≡ b). ap is_le (sym (nat_cmp_is a b Equal e)) ∙ sym (le-leb a b h))
        (λ (m : a < b). ap is_le (sym (nat_cmp_is a b Less m)) ∙ sym (le-leb a b h))
        (eq-or-lt_of_le h)
    | no n ↦ let m = lt_of_not-le n in ap is_le (sym (nat_cmp_is a b Greater m)) ∙ sym (lt-leb a b m)
  ]

  pub contains_between : {s : _} {r : Bool} → range_inclusive_start s ≡ low → range_inclusive_end s ≡ high → range_inclusive_exhausted s ≡ false
      → r ≡ range_inclusive_contains (λ a b. Some (nat_cmp a b)) s x → r ≡ between low high x
  contains_between {s} {r} p q e h = h ∙ rw (p, q, e, le_of_cmp low x, le_of_cmp x high)

-- ---- `all` over the items of a list
all_shift : (t : ℕ → Bool) (n a : ℕ) → all t n (suc a) ≡ all (λ i. t (suc i)) n a
all_shift t zero a = all_none t (suc a) ∙ sym (all_none (λ i. t (suc i)) a)
all_shift t (suc n) a =
    let u : ℕ → Bool = λ i. t (suc i) in
    let rest = all_shift t n (suc a) in
    ⊎_elim
    (λ (p : t (suc a) ≡ true). all_hit t n (suc a) p ∙ rest ∙ sym (all_hit u n a p))
    (λ (p : t (suc a) ≡ false). all_miss t n (suc a) p ∙ sym (all_miss u n a p))
    (either (t (suc a)))

pub list_all_items : (t : ℕ → Bool) (xs : List ℕ) → list_all t xs ≡ all (λ i. t (get_or xs i 0)) (length xs) 0
list_all_items t [] = sym (all_none (λ i. t (get_or [] i 0)) 0)
list_all_items t (x ∷ xs) =
    let u : ℕ → Bool = λ i. t (get_or (x ∷ xs) i 0) in
    let rest = list_all_items t xs in
    ⊎_elim
    (λ (p : t x ≡ true). let e : list_all t (x ∷ xs) ≡ list_all t xs = rw p in e ∙ rest ∙ sym (all_hit u (length xs) 0 p ∙ all_shift u (length xs) 0))
    (λ (p : t x ≡ false). let e : list_all t (x ∷ xs) ≡ false = rw p in e ∙ sym (all_miss u (length xs) 0 p))
    (either (t x))
