-- Laws of a stream of calls: how a run goes on, and what it has done at its end.
-- Assumes nothing.
use mathlib.Core.Path.{◌≡◌, refl, sym, ap, ap₂, ◌∙◌}
use mathlib.Core.Bool.{true, false, cond}
use mathlib.Core.List.{List, [], ◌∷◌, ◌++◌, append-nil, append_assoc}
use mathlib.Core.Logic.{⊎_elim}
use Prim.Native.Nat.{ℕ, suc, ◌+◌, ◌*◌, ◌-◌, ◌/◌, ◌≤◌, ◌<◌, min}
use native.Mathlib.Decide.{dec_le}
use native.Mathlib.Numerals.{add-one}
use native.Mathlib.Omega.{arith}
use lib.Dec.{eqb}
use lib.ListN.{length, get_or, take, drop, set, length-set, length-take, length-drop, take-append-drop, get_or-eq_default}
use lib.Seq.{take-suc-set, take_all, take-nil, drop-set-lt, drop-drop, get_or-drop}
use borrow.Author.Tests.{eqb-true, ne_eqb}
use Rattle.laws.proofs.Cases.{either}
use Rattle.rules.specs.Call.{call_answer, call_book, call_code}
use Rattle.ledger.specs.Ledger.{Call, paper_codes, book_code, book_next, book_codes, book_after, Holds}
use Rattle.rules.specs.Outcome.{Answer, answer}
use Rattle.rules.specs.Reads.{Read, account, position, exposure, request, basket, read_code, read_answer}
use Rattle.engine.specs.Entry.{numbers_of}
use Rattle.ledger.proofs.Demand3.{demand_3}
use Rattle.replay.specs.Replay.{read_of, call_of, length_of, calls_of, One, Ran}

-- the first number of a read's answer is its code
first_number : (b : List ℕ) (q : Read) (a : List ℕ) → a ≡ read_answer b q → get_or a 0 0 ≡ read_code b q
unfolding read_answer
first_number b q a e = rw e

-- a read by its number
module _ (b : List ℕ) (k x y : ℕ) {a : List ℕ} where
  pub account_code_lem : k < 2 → a ≡ read_answer b (account x y) → get_or a 0 0 ≡ read_code b (read_of k x y)
  account_code_lem h e = let o : k - 1 ≡ 0 = omega arith in rw o (first_number b (account x y) a e)

  pub position_code : k ≡ 2 → a ≡ read_answer b (position x y) → get_or a 0 0 ≡ read_code b (read_of k x y)
  position_code h e = rw h (first_number b (position x y) a e)

  pub exposure_code : k ≡ 3 → a ≡ read_answer b (exposure x) → get_or a 0 0 ≡ read_code b (read_of k x y)
  exposure_code h e = rw h (first_number b (exposure x) a e)

  pub request_code : k ≡ 4 → a ≡ read_answer b (request x) → get_or a 0 0 ≡ read_code b (read_of k x y)
  request_code h e = rw h (first_number b (request x) a e)

  pub basket_code : 2 ≤ k → (k ≡ 2 → ⊥) → (k ≡ 3 → ⊥) → (k ≡ 4 → ⊥) → a ≡ read_answer b (basket x) → get_or a 0 0 ≡ read_code b (read_of k x y)
  basket_code h n m l e =
      let past : 4 ≤ k - 1 = omega arith in
      rw (get_or-eq_default (account x y ∷ position x y ∷ exposure x ∷ request x ∷ []) (basket x) past) (first_number b (basket x) a e)

-- the code of a call's answer
code_first : (c : ℕ) (x : Answer) → x.code ≡ 0 → (cond (eqb c 0) x (answer c 0 0 0)).code ≡ c
code_first c x z = ⊎_elim (λ (t : eqb c 0 ≡ true). rw t (z ∙ sym (eqb-true c 0 t))) (λ (t : eqb c 0 ≡ false). rw t) (either (eqb c 0))

record_code_lem : (b bytes a : List ℕ) → a ≡ numbers_of (call_answer b bytes) → get_or a 0 0 ≡ call_code b bytes
unfolding call_answer
record_code_lem b bytes a e = rw e (code_first (call_code b bytes) _ refl)

-- one call: a read, and a record that the end of the bytes may cut
module _ (b bytes : List ℕ) (what x y : ℕ) where
  pub one_read : {c : ℕ} → (what ≡ 0 → ⊥) → c ≡ read_code b (read_of what x y) → One what x y bytes b b c 0
  unfolding book_next book_code
  one_read n e = let t = ne_eqb what 0 n in record { book = rw t; given = rw t e; took = rw t; within = omega arith }

  cut : (n : ℕ) → n ≡ min x (length bytes) → take (n - 0) bytes ≡ take x bytes
  cut n q = elim (dec_le x (length bytes)) [
    | yes h ↦ let m : n - 0 ≡ x = omega arith in rw m
    | no h ↦ take_all (n - 0) bytes (omega arith) ∙ sym (take_all x bytes (omega arith))
  ]

  pub one_record : {after a : List ℕ} {n : ℕ} → what ≡ 0 → n ≡ min x (length bytes) → after ≡ call_book b (take (n - 0) bytes) → a ≡ numbers_of (call_answer b (take (n - 0) bytes)) → One what x y bytes b after (get_or a 0 0) n
  unfolding book_next book_code
  one_record {after} {a} {n} z q f g =
      record {
        book = rw z (f ∙ ap (call_book b) (cut n q));
        given = rw z (record_code_lem b (take (n - 0) bytes) a g ∙ ap (call_code b) (cut n q));
        took = rw z (q ∙ sym (length-take x bytes));
        within = omega arith;
      }

-- the calls from three words on
calls_more : (l bytes : List ℕ) → 3 ≤ length l → let call = call_of (get_or l 0 0) (get_or l 1 0) (get_or l 2 0) bytes in calls_of l bytes ≡ call ∷ calls_of (drop 3 l) (drop (length_of call) bytes)
unfolding calls_of
calls_more [] bytes h = absurd (omega arith)
calls_more (a ∷ []) bytes h = absurd (omega arith)
calls_more (a ∷ (b ∷ [])) bytes h = absurd (omega arith)
calls_more (a ∷ (b ∷ (c ∷ l))) bytes h = refl

calls_none : (l bytes : List ℕ) → length l < 3 → calls_of l bytes ≡ []
unfolding calls_of
calls_none [] bytes h = refl
calls_none (a ∷ []) bytes h = refl
calls_none (a ∷ (b ∷ [])) bytes h = refl
calls_none (a ∷ (b ∷ (c ∷ l))) bytes h = absurd (omega arith)

-- the calls that are left after k of at most n, from a place of the bytes on
abbrev pub left_from : ℕ → List ℕ → List ℕ → ℕ → ℕ → List Call
left_from n words bytes k at = take (n - k) (calls_of (drop (3 * k) words) (drop at bytes))

module _ (n : ℕ) (words bytes : List ℕ) (k at : ℕ) where
  left_more : 3 * k + 3 ≤ length words → k < n
      → let call = call_of (get_or words (3 * k) 0) (get_or words (3 * k + 1) 0) (get_or words (3 * k + 2) 0) (drop at bytes) in
      left_from n words bytes k at ≡ call ∷ left_from n words bytes (k + 1) (at + length_of call)
  left_more h l =
      let e : n - k ≡ suc (n - (k + 1)) = omega arith in
      let o : 3 * (k + 1) ≡ 3 * k + 3 = omega arith in
      let z : 3 * k + 0 ≡ 3 * k = omega arith in
      rw (e, calls_more (drop (3 * k) words) (drop at bytes) (omega (arith, length-drop (3 * k) words)), o) (simp (get_or-drop, drop-drop, z))

  left_none : min (length words / 3) n ≤ k → left_from n words bytes k at ≡ []
  left_none h = elim (dec_le n k) [
    | yes l ↦ let e : n - k ≡ 0 = omega arith in rw e
    | no l ↦ rw (calls_none (drop (3 * k) words) (drop at bytes) (omega (arith, length-drop (3 * k) words)), take-nil)
  ]

-- a part that goes to the end
pub length_part : (at : ℕ) (bytes : List ℕ) → length (take (length bytes - at) (drop at bytes)) ≡ length bytes - at
length_part at bytes = simp (length-take, length-drop) (omega arith)

-- what holds at each turn of a run: k codes are given, those past them are as they were, and the calls from the place on are left
pub record Walk (n : ℕ) (words bytes b₀ b l₀ l : List ℕ) (k at : ℕ) : Type 0 where
  pub within : at ≤ length bytes
  pub long : length b ≡ length b₀
  pub same : length l ≡ length l₀
  pub count : length (take n (calls_of words bytes)) ≡ k + length (left_from n words bytes k at)
  pub book : book_after b₀ (take n (calls_of words bytes)) ≡ book_after b (left_from n words bytes k at)
  pub given : book_codes b₀ (take n (calls_of words bytes)) ≡ take k l ++ book_codes b (left_from n words bytes k at)
  pub rest : drop k l ≡ drop k l₀

pub walk_begins : (n : ℕ) (words bytes b l : List ℕ) → Walk n words bytes b b l l 0 0
walk_begins n words bytes b l =
    let all : take n (calls_of words bytes) ≡ left_from n words bytes 0 0 = (let e : n - 0 ≡ n = omega arith in rw e) in
    record {
      within = omega arith;
      long = refl;
      same = refl;
      count = omega (arith, ap (length {A = Call}) all);
      book = ap (book_after b) all;
      given = ap (book_codes b) all;
      rest = refl;
    }

module _ {n : ℕ} {words bytes b₀ b l₀ l : List ℕ} {k at : ℕ} (w : Walk n words bytes b₀ b l₀ l k at) where
  pub walk_goes_on : {after : List ℕ} {c m : ℕ} → 3 * k + 3 ≤ length words → k < n → k < length l → length after ≡ length b
      → One (get_or words (3 * k) 0) (get_or words (3 * k + 1) 0) (get_or words (3 * k + 2) 0) (take (length bytes - at) (drop at bytes)) b after c m
      → Walk n words bytes b₀ after l₀ (set l k c) (k + 1) (at + m)
  unfolding book_after book_codes
  walk_goes_on {after} {c} {m} h r i same p =
      let size = length-drop at bytes in
      let o : One (get_or words (3 * k) 0) (get_or words (3 * k + 1) 0) (get_or words (3 * k + 2) 0) (drop at bytes) b after c m = rw (take_all (length bytes - at) (drop at bytes) (omega arith)) at p in
      let left = left_from n words bytes (k + 1) (at + m) in
      let more = rw (← o.took) at (left_more n words bytes k at h r) in
      record {
        within = omega arith;
        long = same ∙ w.long;
        same = simp length-set w.same;
        count = omega (arith, w.count, ap (length {A = Call}) more);
        book = w.book ∙ ap (book_after b) more ∙ ap (λ (z : List ℕ). book_after z left) (sym o.book);
        given =
            w.given
            ∙ ap (λ (z : List Call). take k l ++ book_codes b z) more
            ∙ ap₂ (λ (u : ℕ) (v : List ℕ). take k l ++ (u ∷ book_codes v left)) (sym o.given) (sym o.book)
            ∙ rw (add-one, take-suc-set l k c i, append_assoc);
        rest = drop-set-lt (k + 1) l k c (omega arith) ∙ sym (drop-drop 1 k l) ∙ ap (drop 1) w.rest ∙ drop-drop 1 k l₀;
      }

  -- nothing is left: demand 3 holds of the bytes
  module _ (end : min (length words / 3) n ≤ k) where
    none : left_from n words bytes k at ≡ []
    none = left_none n words bytes k at end

    same_book : b ≡ book_after b₀ (take n (calls_of words bytes))
    unfolding book_after
    same_book = sym (w.book ∙ ap (book_after b) none)

    same_codes : take k l ≡ book_codes b₀ (take n (calls_of words bytes))
    unfolding book_codes
    same_codes = sym (w.given ∙ ap (λ (z : List Call). take k l ++ book_codes b z) none ∙ append-nil (take k l))

    all_codes : (given : List ℕ) → take k l ≡ given → l ≡ given ++ drop k l₀
    all_codes given e = sym (take-append-drop k l) ∙ ap₂ (λ (x y : List ℕ). x ++ y) e w.rest

    pub walk_done : Ran (take n (calls_of words bytes)) b₀ b l₀ l k
    walk_done =
        record {
          count = omega (arith, w.count, ap (length {A = Call}) none);
          book = same_book;
          given = all_codes (book_codes b₀ (take n (calls_of words bytes))) same_codes;
          ledger = λ opening rest e o p.
              let d : Holds b₀ p (take n (calls_of words bytes)) = rw e (demand_3 b₀ p opening rest o) in
              (all_codes (paper_codes p (take n (calls_of words bytes))) (same_codes ∙ d.codes), rw same_book d.agrees);
        }
