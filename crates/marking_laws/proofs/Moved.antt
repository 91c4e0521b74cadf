-- Which numbers a move of bonds changes: accounts, and the position of one exposure; and how "its position is another" is told by what moved.
-- Assumes nothing.
use mathlib.Core.Path.{◌≡◌, refl, sym, ap, ◌∙◌, fun_ext}
use mathlib.Core.Bool.{Bool, true, false, not, ◌||◌}
use mathlib.Core.List.{List}
use mathlib.Core.Logic.{⊎_elim}
use Prim.Native.Nat.{ℕ, ◌+◌, ◌*◌, ◌-◌, ◌≤◌, ◌<◌}
use native.Mathlib.Omega.{arith}
use lib.Dec.{eqb}
use lib.ListN.{get_or}
use borrow.Author.Tests.{eqb-true, eqb-false, eq-eqb, ne_eqb}
use Rattle.laws.specs.Search.{all}
use Rattle.laws.proofs.Cases.{either, clash}
use Rattle.laws.proofs.Least.{all_at, all_same}
use Rattle.facts.proofs.Truth.{all_of}
use Rattle.book.specs.Layout.{exposure_givers, accounts, positions}
use Rattle.book.specs.State.{State, raised, lowered}
use Rattle.book.specs.Fits.{Lowerable}
use Rattle.book.proofs.Moves.{raised_other, lowered_other, moved_cases}
use Rattle.bond_laws.proofs.Moving.{pledge_position, give_back_position}
use Rattle.rules.specs.Marking.{moved}
use Rattle.rules.specs.Stock.{pledge, give_back}
use Rattle.marking_laws.specs.Pass.{is_empty}

-- the second state differs in accounts and positions alone
pub record Bonds (s t : State) : Type 0 where
  pub others : (g j : ℕ) → (g ≡ accounts → ⊥) → (g ≡ positions → ⊥) → t g j ≡ s g j

-- and of the positions in that of the exposure e alone
pub record Own (e : ℕ) (s t : State) : Type 0 where
  pub bonds : Bonds s t
  pub rows : (j : ℕ) → (64 * e ≤ j → j < 64 * e + 64 → ⊥) → t positions j ≡ s positions j

pub bonds_none : (s : State) → Bonds s s
bonds_none s = record { others = λ g j a p. refl }

pub bonds_then : {s t u : State} → Bonds s t → Bonds t u → Bonds s u
bonds_then b c = record { others = λ g j a p. c.others g j a p ∙ b.others g j a p }

pub own_none : (e : ℕ) (s : State) → Own e s s
own_none e s = record { bonds = bonds_none s; rows = λ j n. refl }

module _ (s : State) (e : ℕ) (by : List ℕ) where
  abbrev giver_row : ℕ
  giver_row = 64 * s exposure_givers e

  pub own_pledge : Own e s (pledge s e by)
  own_pledge =
      let t = lowered s accounts giver_row by in
      record {
        bonds = record { others = λ g j a p. raised_other t positions (64 * e) by g j (λ q l m. p q) ∙ lowered_other s accounts giver_row by g j (λ q l m. a q) };
        rows = λ j n. raised_other t positions (64 * e) by positions j (λ q l m. n l m);
      }

  pub own_give_back : Own e s (give_back s e by)
  own_give_back =
      let t = lowered s positions (64 * e) by in
      record {
        bonds = record { others = λ g j a p. raised_other t accounts giver_row by g j (λ q l m. a q) ∙ lowered_other s positions (64 * e) by g j (λ q l m. p q) };
        rows = λ j n. lowered_other s positions (64 * e) by positions j (λ q l m. n l m);
      }

-- the nominal i is the same in the position of e in two states
abbrev same_at : State → State → ℕ → ℕ → Bool
same_at s t e i = eqb (s positions (64 * e + i)) (t positions (64 * e + i))

-- the position of e is the same in two states
abbrev pub Alike : State → State → ℕ → Type 0
Alike s t e = (i : ℕ) → i < 64 → s positions (64 * e + i) ≡ t positions (64 * e + i)

-- that of any other exposure is, where e alone moved
pub own_other : {s t : State} {e : ℕ} → Own e s t → (d : ℕ) → (d ≡ e → ⊥) → Alike t s d
own_other {s} {t} {e} o d n i l = o.rows (64 * d + i) (λ a b. n (omega arith))

-- positions alike, moved alike
pub moved_same : (s t u v : State) (e : ℕ) → Alike s u e → Alike t v e → moved s t e ≡ moved u v e
moved_same s t u v e a b = ap not (all_same (same_at s t e) (same_at u v e) 64 0 (λ i g l. rw (a i (omega arith), b i (omega arith))))

-- the test over a position, both ways
alike_all : (s t : State) (e : ℕ) → Alike s t e → all (same_at s t e) 64 0 ≡ true
alike_all s t e h = all_of (same_at s t e) 64 0 (λ i g l. eq-eqb (s positions (64 * e + i)) (t positions (64 * e + i)) (h i (omega arith)))

all_alike : (s t : State) (e : ℕ) → all (same_at s t e) 64 0 ≡ true → Alike s t e
all_alike s t e h i l = eqb-true (s positions (64 * e + i)) (t positions (64 * e + i)) (all_at (same_at s t e) 64 0 h i (omega arith) (omega arith))

pub moved_none : (s : State) (e : ℕ) → moved s s e ≡ false
moved_none s e = ap not (alike_all s s e (λ i l. refl))

-- no number of the position of e is more in the second state
abbrev pub NoMore : State → State → ℕ → Type 0
NoMore s t e = (i : ℕ) → i < 64 → t positions (64 * e + i) ≤ s positions (64 * e + i)

pub given_less : (s : State) (e : ℕ) (by : List ℕ) → NoMore s (give_back s e by) e
given_less s e by i l = omega (arith, give_back_position s e by i l)

-- a position that a first step and then a second only lower is another after both where one of them made it another
pub moved_both : (s t u : State) (e : ℕ) → NoMore s t e → NoMore t u e → moved s u e ≡ (moved s t e || moved t u e)
moved_both s t u e low lower = go (all (same_at s u e) 64 0) (all (same_at s t e) 64 0) (all (same_at t u e) 64 0) refl refl refl
  where
    go : (b c d : Bool) → all (same_at s u e) 64 0 ≡ b → all (same_at s t e) 64 0 ≡ c → all (same_at t u e) 64 0 ≡ d → not b ≡ (not c || not d)
    go true true true p q r = refl
    go false false d p q r = refl
    go false true false p q r = refl
    go true false d p q r = clash (alike_all s t e (λ i l. omega (arith, all_alike s u e p i l, low i l, lower i l))) q
    go true true false p q r = clash (alike_all t u e (λ i l. omega (arith, all_alike s u e p i l, low i l, lower i l))) r
    go false true true p q r = clash (alike_all s u e (λ i l. all_alike s t e q i l ∙ all_alike t u e r i l)) p

module _ (s : State) (e : ℕ) (by : List ℕ) where
  -- an exposure takes in where what is pledged is not empty
  pub took_in : moved s (pledge s e by) e ≡ not (is_empty by)
  took_in = ap not (all_same (same_at s (pledge s e by) e) (λ i. eqb (get_or by i 0) 0) 64 0 (λ i g l. rw (pledge_position s e by i (omega arith)) (alike (s positions (64 * e + i)) (get_or by i 0))))
    where
      alike : (a b : ℕ) → eqb a (a + b) ≡ eqb b 0
      alike a b = ⊎_elim
          (λ z. let n : b ≡ 0 = eqb-true b 0 z in eq-eqb a (a + b) (omega arith) ∙ sym z)
          (λ z. ne_eqb a (a + b) (λ q. eqb-false b 0 z (omega arith)) ∙ sym z)
          (either (eqb b 0))

  -- and gives back where what is given back is not empty
  pub gave_back : Lowerable s positions (64 * e) by → moved s (give_back s e by) e ≡ not (is_empty by)
  gave_back h = ap not (all_same (same_at s (give_back s e by) e) (λ i. eqb (get_or by i 0) 0) 64 0
      (λ i g l. rw (give_back_position s e by i (omega arith)) (alike (s positions (64 * e + i)) (get_or by i 0) (h.enough i (omega arith)))))
    where
      alike : (a b : ℕ) → b ≤ a → eqb a (a - b) ≡ eqb b 0
      alike a b m = ⊎_elim
          (λ z. let n : b ≡ 0 = eqb-true b 0 z in eq-eqb a (a - b) (omega arith) ∙ sym z)
          (λ z. ne_eqb a (a - b) (λ q. eqb-false b 0 z (omega arith)) ∙ sym z)
          (either (eqb b 0))

  -- nothing given back or pledged leaves the state
  module _ (none : is_empty by ≡ true) where
    nothing : (start j : ℕ) → start ≤ j → j < start + 64 → get_or by (j - start) 0 ≡ 0
    nothing start j h l = eqb-true (get_or by (j - start) 0) 0 (all_at (λ i. eqb (get_or by i 0) 0) 64 0 none (j - start) (omega arith) (omega arith))

    raised_none : (t : State) (f start : ℕ) → raised t f start by ≡ t
    raised_none t f start = fun_ext (λ g. fun_ext (λ j. moved_cases ◌+◌ t f start by (λ (y : ℕ). y ≡ t g j) g j (λ q h l. omega (arith, nothing start j h l)) refl))

    lowered_none : (t : State) (f start : ℕ) → lowered t f start by ≡ t
    lowered_none t f start = fun_ext (λ g. fun_ext (λ j. moved_cases ◌-◌ t f start by (λ (y : ℕ). y ≡ t g j) g j (λ q h l. omega (arith, nothing start j h l)) refl))

    pub pledge_nothing : pledge s e by ≡ s
    pledge_nothing = raised_none (lowered s accounts (64 * s exposure_givers e) by) positions (64 * e) ∙ lowered_none s accounts (64 * s exposure_givers e)

    pub give_nothing : give_back s e by ≡ s
    give_nothing = raised_none (lowered s positions (64 * e) by) accounts (64 * s exposure_givers e) ∙ lowered_none s positions (64 * e)
