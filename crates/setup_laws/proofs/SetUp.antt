-- What kinds 0 to 5 keep.
-- Assumes nothing.
use mathlib.Core.Path.{◌≡◌, refl, sym}
use mathlib.Core.Bool.{true, false, not, ◌&&◌, ◌||◌, cond, and-false}
use mathlib.Core.List.{List, [], ◌∷◌}
use mathlib.Core.Logic.{⊎_elim}
use Prim.Native.Nat.{ℕ, ◌+◌, ◌*◌, ◌-◌, ◌≤◌, ◌<◌}
use native.Mathlib.Nat.{one-le-pow}
use native.Mathlib.Decide.{ℕ_discrete}
use native.Mathlib.Omega.{arith}
use lib.Dec.{eqb, leb}
use borrow.Author.Tests.{le-leb, ltb-false, eqb-true, eq-eqb, ne_eqb, not-false}
use Rattle.laws.specs.Search.{all, between}
use Rattle.laws.specs.Sum.{sum}
use Rattle.laws.proofs.Cases.{either}
use Rattle.calendar.specs.Target.{open_day}
use Rattle.calendar.proofs.OpenDays.{open_within}
use Rattle.record_kinds.specs.Kinds.{kinds}
use Rattle.records.specs.Writing.{are_legal}
use Rattle.book.specs.Layout.{today, tolerance, next_number, lots, prices, haircuts, quote_days, modes, lists, partials, waiting_modes, waiting_lists, waiting_partials, maps, greatest_ages, exposure_amounts, accounts, rows_of, width_of}
use Rattle.book.specs.State.{State, put}
use Rattle.book.specs.Fits.{Fits}
use Rattle.book.proofs.Images.{put_fits}
use Rattle.book.proofs.Places.{row_of}
use Rattle.rules.specs.Codes.{opening_rules, price_rules, basket_rules, deposit_rules, withdrawal_rules}
use Rattle.facts.proofs.Sums.{Sums, all_noted}
use Rattle.rules.specs.Outcome.{silent, lowest}
use Rattle.rules.specs.Fields.{field}
use Rattle.rules.specs.SetUp.{empty_state, opened, priced, enrolled, basket_made, deposited, withdrawn}
use Rattle.rules.specs.ByRow.{sound_security, sound_profile, sound_participant, sound_basket, sound_position}
use Rattle.rules.specs.Stock.{participant_set_up, security_set_up, holding}
use Rattle.facts.proofs.Keeps.{Keeps, Amounts}
use Rattle.facts.specs.Good.{Good}
use Rattle.facts.proofs.Ranges.{field_in_lem}
use Rattle.facts.proofs.Rows.{position_facts, position_none, position_stocked}
use Rattle.facts.proofs.Rules.{none_applies}
use Rattle.facts.proofs.Stock.{account_le}
use Rattle.facts.proofs.Truth.{split, join, facts_between}
use Rattle.setup_laws.proofs.More.{More, row_more, exposure_more}

-- 0: the empty book
empty_fits : Fits empty_state
empty_fits = record { fits = λ f i h. one-le-pow (width_of f) 256 (omega arith); blank = λ f i h. refl }

module _ (r : List ℕ) (legal : are_legal 0 r ≡ true) (accepted : lowest (opening_rules r) ≡ 0) where
  open_day_lem : open_day (field r 0) ≡ true
  unfolding opening_rules
  open_day_lem = not-false (open_day (field r 0)) (none_applies (opening_rules r) refl accepted).0

  pub opening_holds : (p i : ℕ) → holding (opened r).state p i ≡ 0
  unfolding opened holding sum
  opening_holds p i = refl

  pub opening_amount : (e : ℕ) → (opened r).state exposure_amounts e ≡ 0
  unfolding opened
  opening_amount e = refl

  pub good_opening : Good (opened r).state
  unfolding opened all kinds
  good_opening =
      let in-range = field_in_lem 0 1 r legal (omega arith) in
      let day = open_within (field r 0) open_day_lem in
      record {
        facts = record {
          head = join (open_day (field r 0) ∷ between 1 100000000 (field r 1) ∷ between 1 1000000000 1 ∷ []) (open_day_lem, (facts_between 1 100000000 (field r 1) in-range, refl));
          security = λ i l. refl;
          participant = λ i l. refl;
          basket = λ i l. refl;
          spare = λ i l. refl;
          row = λ i l. refl;
          number = λ i l. refl;
          exposure = λ i l. refl;
          key = λ i l. refl;
          position = λ e i h l. refl;
          held = λ p i h l. omega (arith, opening_holds p i);
        };
        fits =
            put_fits (put (put empty_state today 0 (field r 0)) tolerance 0 (field r 1)) next_number 0 1
            (put_fits (put empty_state today 0 (field r 0)) tolerance 0 (field r 1) (put_fits empty_state today 0 (field r 0) empty_fits (omega arith) (omega arith) (omega arith)) (omega arith) (omega arith) (omega arith))
            (omega arith)
            (omega arith)
            (omega arith);
      }

-- 1: a security's numbers; one that has a lot keeps it, so positions stay in whole lots
module _ (s : State) (r : List ℕ) (good : Good s) (legal : are_legal 1 r ≡ true) (accepted : lowest (price_rules s r) ≡ 0) where
  other_lot : (security_set_up s (field r 0) && not (eqb (s lots (field r 0)) (field r 1))) ≡ false
  unfolding price_rules
  other_lot = (none_applies (price_rules s r) refl accepted).0

  open_quote : open_day (field r 4) ≡ true
  unfolding price_rules
  open_quote = not-false (open_day (field r 4)) (none_applies (price_rules s r) refl accepted).1.0

  lot_kept : (j : ℕ) → security_set_up s j ≡ true → (priced s r).state lots j ≡ s lots j
  unfolding priced
  lot_kept j u =
      elim (ℕ_discrete j (field r 0)) [
        | yes e ↦
            let other = rw (← e, u) at other_lot in
            rw (eq-eqb j (field r 0) e) (sym (eqb-true (s lots j) (field r 1) (not-false (eqb (s lots j) (field r 1)) other)))
        | no e ↦ rw (ne_eqb j (field r 0) e)
      ]

  security_priced : (j : ℕ) → sound_security s j ≡ true → sound_security (priced s r).state j ≡ true
  unfolding priced kinds
  security_priced j h =
      elim (ℕ_discrete j (field r 0)) [
        | yes e ↦
            let lot = field_in_lem 1 1 r legal (omega arith) in
            let price = field_in_lem 1 2 r legal (omega arith) in
            let haircut = field_in_lem 1 3 r legal (omega arith) in
            rw (eq-eqb j (field r 0) e, ne_eqb (field r 1) 0 (λ z. omega arith))
            (join (leb (field r 1) 1000000 ∷ between 1 3000000 (field r 2) ∷ leb (field r 3) 9999 ∷ open_day (field r 4) ∷ [])
            (le-leb (field r 1) 1000000 lot.1, (facts_between 1 3000000 (field r 2) price, (le-leb (field r 3) 9999 haircut.1, open_quote))))
        | no e ↦ rw (ne_eqb j (field r 0) e) h
      ]

  position_priced : (e j : ℕ) → sound_position s e j ≡ true → sound_position (priced s r).state e j ≡ true
  unfolding priced
  position_priced e j h =
      ⊎_elim
      (λ z. position_none (priced s r).state e j z)
      (λ k. position_stocked (priced s r).state e j (record {
        used = k.used;
        amount = k.amount;
        known = rw (lot_kept j k.known) k.known;
        whole = rw (lot_kept j k.known) k.whole;
      }))
      (position_facts s e j h)

  price_fits : Fits (priced s r).state
  unfolding priced kinds
  price_fits =
      let security : field r 0 < 64 = omega (arith, (field_in_lem 1 0 r legal (omega arith)).1) in
      let lot = field_in_lem 1 1 r legal (omega arith) in
      let price = field_in_lem 1 2 r legal (omega arith) in
      let haircut = field_in_lem 1 3 r legal (omega arith) in
      let quote = open_within (field r 4) open_quote in
      let a = put s lots (field r 0) (field r 1) in
      let b = put a prices (field r 0) (field r 2) in
      let c = put b haircuts (field r 0) (field r 3) in
      put_fits c quote_days (field r 0) (field r 4)
      (put_fits b haircuts (field r 0) (field r 3)
      (put_fits a prices (field r 0) (field r 2)
      (put_fits s lots (field r 0) (field r 1) good.fits (omega arith) security (omega arith))
      (omega arith) security (omega arith))
      (omega arith) security (omega arith))
      (omega arith) security (omega arith)

  pub keeps_price : Keeps s (priced s r)
  unfolding priced holding all_noted all
  keeps_price = record {
    good = record {
      facts = record {
        head = good.facts.head;
        security = λ j l. security_priced j (good.facts.security j l);
        participant = good.facts.participant;
        basket = good.facts.basket;
        spare = good.facts.spare;
        row = good.facts.row;
        number = good.facts.number;
        exposure = good.facts.exposure;
        key = good.facts.key;
        position = λ e j h l. position_priced e j (good.facts.position e j h l);
        held = good.facts.held;
      };
      fits = price_fits;
    };
    bonds = λ p j h l. refl;
    amounts = λ q h. h;
  }

-- 2: a participant's first profile holds at once, and a later one waits: a profile is three tables from one on
abbrev profile_put : State → ℕ → List ℕ → State
profile_put s f r = put (put (put s f (field r 0) (field r 1 + 1)) (f + 1) (field r 0) (field r 2)) (f + 2) (field r 0) (field r 3)

-- a table of the participants, a word a row
abbrev OfParticipants : ℕ → Type 0
OfParticipants f = (rows_of f ≡ 32) × (width_of f ≡ 4)

module _ (s : State) (r : List ℕ) (good : Good s) (legal : are_legal 2 r ≡ true) where
  participant_below : field r 0 < 32
  unfolding kinds
  participant_below = omega (arith, (field_in_lem 2 0 r legal (omega arith)).1)

  profile_legal : sound_profile (field r 1 + 1) (field r 2) (field r 3) ≡ true
  unfolding kinds
  profile_legal =
      let mode = field_in_lem 2 1 r legal (omega arith) in
      rw (ne_eqb (field r 1 + 1) 0 (λ z. omega arith))
      (join (leb (field r 1 + 1) 3 ∷ leb (field r 3) 1 ∷ []) (le-leb (field r 1 + 1) 3 (omega arith), le-leb (field r 3) 1 (field_in_lem 2 3 r legal (omega arith)).1))

  word_fits : (t : State) (f x : ℕ) → Fits t → OfParticipants f → x < 4294967296 → Fits (put t f (field r 0) x)
  word_fits t f x fit o l =
      let row : field r 0 < rows_of f = rw o.0 participant_below in
      put_fits t f (field r 0) x fit (row_of f (field r 0) row) row (rw o.1 l)

  profile_fits : (f : ℕ) → OfParticipants f → OfParticipants (f + 1) → OfParticipants (f + 2) → Fits (profile_put s f r)
  unfolding kinds
  profile_fits f a b c =
      let mode = field_in_lem 2 1 r legal (omega arith) in
      let list = field_in_lem 2 2 r legal (omega arith) in
      let partial = field_in_lem 2 3 r legal (omega arith) in
      word_fits (put (put s f (field r 0) (field r 1 + 1)) (f + 1) (field r 0) (field r 2)) (f + 2) (field r 3)
      (word_fits (put s f (field r 0) (field r 1 + 1)) (f + 1) (field r 2) (word_fits s f (field r 1 + 1) good.fits a (omega arith)) b (omega arith))
      c
      (omega arith)

  -- the first profile: the participant is set up now
  first_more : More s (profile_put s modes r)
  first_more = record {
    tolerance_same = refl;
    next_same = refl;
    participants = λ p u. elim (ℕ_discrete p (field r 0)) [
      | yes e ↦ rw (eq-eqb p (field r 0) e, ne_eqb (field r 1 + 1) 0 (λ z. omega arith))
      | no e ↦ rw (ne_eqb p (field r 0) e) u
    ];
    baskets = λ b u. u;
  }

  first_participant : participant_set_up s (field r 0) ≡ false → (p : ℕ) → sound_participant s p ≡ true → sound_participant (profile_put s modes r) p ≡ true
  first_participant n p h =
      let waits = sound_profile (s waiting_modes p) (s waiting_lists p) (s waiting_partials p) in
      elim (ℕ_discrete p (field r 0)) [
        | yes e ↦
            let t = split (sound_profile (s modes p) (s lists p) (s partials p) ∷ waits ∷ (participant_set_up s p || eqb (s waiting_modes p) 0) ∷ []) h in
            rw (eq-eqb p (field r 0) e)
            (join (sound_profile (field r 1 + 1) (field r 2) (field r 3) ∷ waits ∷ (not (eqb (field r 1 + 1) 0) || eqb (s waiting_modes p) 0) ∷ [])
            (profile_legal, (t.1.0, rw (ne_eqb (field r 1 + 1) 0 (λ z. omega arith)))))
        | no e ↦ rw (ne_eqb p (field r 0) e) h
      ]

  keeps_first : participant_set_up s (field r 0) ≡ false → Keeps s (silent (profile_put s modes r))
  unfolding holding all_noted all
  keeps_first n = record {
    good = record {
      facts = record {
        head = good.facts.head;
        security = good.facts.security;
        participant = λ p l. first_participant n p (good.facts.participant p l);
        basket = good.facts.basket;
        spare = good.facts.spare;
        row = λ i l. row_more s (profile_put s modes r) first_more i (good.facts.row i l);
        number = good.facts.number;
        exposure = λ e l. exposure_more s (profile_put s modes r) first_more e (good.facts.exposure e l);
        key = good.facts.key;
        position = good.facts.position;
        held = good.facts.held;
      };
      fits = profile_fits modes (refl, refl) (refl, refl) (refl, refl);
    };
    bonds = λ p i h l. refl;
    amounts = λ q h. h;
  }

  -- a later one: the profile in force stays
  later_participant : participant_set_up s (field r 0) ≡ true → (p : ℕ) → sound_participant s p ≡ true → sound_participant (profile_put s waiting_modes r) p ≡ true
  later_participant u p h =
      let holds = sound_profile (s modes p) (s lists p) (s partials p) in
      elim (ℕ_discrete p (field r 0)) [
        | yes e ↦
            let t = split (holds ∷ sound_profile (s waiting_modes p) (s waiting_lists p) (s waiting_partials p) ∷ (participant_set_up s p || eqb (s waiting_modes p) 0) ∷ []) h in
            rw (eq-eqb p (field r 0) e)
            (join (holds ∷ sound_profile (field r 1 + 1) (field r 2) (field r 3) ∷ (participant_set_up s p || eqb (field r 1 + 1) 0) ∷ [])
            (t.0, (profile_legal, rw (e, u))))
        | no e ↦ rw (ne_eqb p (field r 0) e) h
      ]

  keeps_later : participant_set_up s (field r 0) ≡ true → Keeps s (silent (profile_put s waiting_modes r))
  unfolding holding all_noted all
  keeps_later u = record {
    good = record {
      facts = record {
        head = good.facts.head;
        security = good.facts.security;
        participant = λ p l. later_participant u p (good.facts.participant p l);
        basket = good.facts.basket;
        spare = good.facts.spare;
        row = good.facts.row;
        number = good.facts.number;
        exposure = good.facts.exposure;
        key = good.facts.key;
        position = good.facts.position;
        held = good.facts.held;
      };
      fits = profile_fits waiting_modes (refl, refl) (refl, refl) (refl, refl);
    };
    bonds = λ p i h l. refl;
    amounts = λ q h. h;
  }

  pub keeps_participant : Keeps s (enrolled s r)
  unfolding enrolled
  keeps_participant = ⊎_elim (λ u. rw u (keeps_later u)) (λ u. rw u (keeps_first u)) (either (participant_set_up s (field r 0)))

-- 3: a basket, once
abbrev basket_put : State → List ℕ → State
basket_put s r = put (put s maps (field r 0) (field r 1)) greatest_ages (field r 0) (field r 2)

module _ (s : State) (r : List ℕ) (good : Good s) (legal : are_legal 3 r ≡ true) where
  map_given : field r 1 ≡ 0 → ⊥
  unfolding kinds
  map_given z = omega (arith, (field_in_lem 3 1 r legal (omega arith)).0)

  age_legal : field r 2 ≤ 255
  unfolding kinds
  age_legal = (field_in_lem 3 2 r legal (omega arith)).1

  basket_more : More s (basket_put s r)
  basket_more = record {
    tolerance_same = refl;
    next_same = refl;
    participants = λ p u. u;
    baskets = λ b u. elim (ℕ_discrete b (field r 0)) [
      | yes e ↦ rw (eq-eqb b (field r 0) e, ne_eqb (field r 1) 0 map_given)
      | no e ↦ rw (ne_eqb b (field r 0) e) u
    ];
  }

  basket_put_lem : (b : ℕ) → sound_basket s b ≡ true → sound_basket (basket_put s r) b ≡ true
  basket_put_lem b h =
      elim (ℕ_discrete b (field r 0)) [
        | yes e ↦ rw (eq-eqb b (field r 0) e, ne_eqb (field r 1) 0 map_given) (le-leb (field r 2) 255 age_legal)
        | no e ↦ rw (ne_eqb b (field r 0) e) h
      ]

  basket_fits : Fits (basket_put s r)
  unfolding kinds
  basket_fits =
      let basket : field r 0 < 16 = omega (arith, (field_in_lem 3 0 r legal (omega arith)).1) in
      let map = field_in_lem 3 1 r legal (omega arith) in
      put_fits (put s maps (field r 0) (field r 1)) greatest_ages (field r 0) (field r 2)
      (put_fits s maps (field r 0) (field r 1) good.fits (omega arith) basket (omega arith))
      (omega arith)
      basket
      (omega (arith, age_legal))

  pub keeps_basket : lowest (basket_rules s r) ≡ 0 → Keeps s (basket_made s r)
  unfolding basket_made holding all_noted all
  keeps_basket accepted = record {
    good = record {
      facts = record {
        head = good.facts.head;
        security = good.facts.security;
        participant = good.facts.participant;
        basket = λ b l. basket_put_lem b (good.facts.basket b l);
        spare = good.facts.spare;
        row = λ i l. row_more s (basket_put s r) basket_more i (good.facts.row i l);
        number = good.facts.number;
        exposure = λ e l. exposure_more s (basket_put s r) basket_more e (good.facts.exposure e l);
        key = good.facts.key;
        position = good.facts.position;
        held = good.facts.held;
      };
      fits = basket_fits;
    };
    bonds = λ p i h l. refl;
    amounts = λ q h. h;
  }

-- 4 and 5: one account's number of one security
abbrev account_put : State → ℕ → ℕ → ℕ → State
account_put s p i x = put s accounts (64 * p + i) x

module _ (s : State) (p i x : ℕ) where
  account_same : holding (account_put s p i x) p i + s accounts (64 * p + i) ≡ holding s p i + x
  unfolding holding
  account_same = rw (eq-eqb (64 * p + i) (64 * p + i) refl) (omega arith)

  account_other : (q j : ℕ) → i < 64 → j < 64 → (q ≡ p → j ≡ i → ⊥) → holding (account_put s p i x) q j ≡ holding s q j
  unfolding holding
  account_other q j h l d =
      let other : 64 * q + j ≡ 64 * p + i → ⊥ = λ e. d (omega arith) (omega arith) in
      rw (ne_eqb (64 * q + j) (64 * p + i) other)

  good_account : Good s → p < 32 → i < 64 → x < 4294967296 → ((q j : ℕ) → q < 32 → j < 64 → holding (account_put s p i x) q j ≤ 500000000) → Good (account_put s p i x)
  unfolding all
  good_account good h l m held = record {
    facts = record {
      head = good.facts.head;
      security = good.facts.security;
      participant = good.facts.participant;
      basket = good.facts.basket;
      spare = good.facts.spare;
      row = good.facts.row;
      number = good.facts.number;
      exposure = good.facts.exposure;
      key = good.facts.key;
      position = good.facts.position;
      held = held;
    };
    fits = put_fits s accounts (64 * p + i) x good.fits (omega arith) (omega arith) m;
  }

-- what a record of kind 4 or 5 moves: its nominal at its participant and security, and nothing elsewhere
abbrev pub nominal_at : List ℕ → ℕ → ℕ → ℕ
nominal_at r p i = cond (eqb p (field r 0) && eqb i (field r 1)) (field r 2) 0

nominal_cases : (P : ℕ → Type 0) (r : List ℕ) (p i : ℕ) → (p ≡ field r 0 → i ≡ field r 1 → P (field r 2)) → ((p ≡ field r 0 → i ≡ field r 1 → ⊥) → P 0) → P (nominal_at r p i)
nominal_cases P r p i here there =
    elim (ℕ_discrete p (field r 0)) [
      | yes a ↦
          elim (ℕ_discrete i (field r 1)) [
            | yes b ↦ rw (eq-eqb p (field r 0) a, eq-eqb i (field r 1) b) (here a b)
            | no b ↦ rw (ne_eqb i (field r 1) b, and-false) (there (λ c d. b d))
          ]
      | no a ↦ rw (ne_eqb p (field r 0) a) (there (λ c d. a c))
    ]

-- a deposit keeps a sound book and the amounts, and adds its nominal to the bonds at its place
pub record Deposit (s : State) (r : List ℕ) : Type 0 where
  pub good : Good (deposited s r).state
  pub bonds : (p i : ℕ) → p < 32 → i < 64 → holding (deposited s r).state p i ≡ holding s p i + nominal_at r p i
  pub amounts : (q : Sums) → Amounts s q → Amounts (deposited s r).state (all_noted q (deposited s r).events)

module _ (s : State) (r : List ℕ) (good : Good s) (legal : are_legal 4 r ≡ true) (accepted : lowest (deposit_rules s r) ≡ 0) where
  deposit_room : holding s (field r 0) (field r 1) + field r 2 ≤ 500000000
  unfolding deposit_rules
  deposit_room = ltb-false 500000000 (holding s (field r 0) (field r 1) + field r 2) (none_applies (deposit_rules s r) refl accepted).1.1.0

  deposit_bonds : (p i : ℕ) → p < 32 → i < 64 → holding (deposited s r).state p i ≡ holding s p i + nominal_at r p i
  unfolding deposited kinds
  deposit_bonds p i h l =
      let x = s accounts (64 * field r 0 + field r 1) + field r 2 in
      let security = field_in_lem 4 1 r legal (omega arith) in
      nominal_cases (λ (y : ℕ). holding (deposited s r).state p i ≡ holding s p i + y) r p i
      (λ a b. rw (a, b) (omega (arith, account_same s (field r 0) (field r 1) x)))
      (λ d. omega (arith, account_other s (field r 0) (field r 1) x p i (omega arith) l d))

  deposit_held : (p i : ℕ) → p < 32 → i < 64 → holding (deposited s r).state p i ≤ 500000000
  deposit_held p i h l =
      rw (deposit_bonds p i h l)
      (nominal_cases (λ (y : ℕ). holding s p i + y ≤ 500000000) r p i (λ a b. rw (a, b) deposit_room) (λ d. omega (arith, good.facts.held p i h l)))

  pub deposit : Deposit s r
  unfolding deposited all_noted kinds
  deposit =
      let participant = field_in_lem 4 0 r legal (omega arith) in
      let security = field_in_lem 4 1 r legal (omega arith) in
      let account = account_le s good.facts (field r 0) (field r 1) (omega arith) (omega arith) in
      let nominal = field_in_lem 4 2 r legal (omega arith) in
      record {
        good = good_account s (field r 0) (field r 1) (s accounts (64 * field r 0 + field r 1) + field r 2) good (omega arith) (omega arith) (omega arith) deposit_held;
        bonds = deposit_bonds;
        amounts = λ q h. h;
      }

-- a withdrawal keeps them too, and takes its nominal, which was there, from the bonds at its place
pub record Withdrawal (s : State) (r : List ℕ) : Type 0 where
  pub good : Good (withdrawn s r).state
  pub bonds : (p i : ℕ) → p < 32 → i < 64 → holding (withdrawn s r).state p i + nominal_at r p i ≡ holding s p i
  pub enough : field r 2 ≤ holding s (field r 0) (field r 1)
  pub amounts : (q : Sums) → Amounts s q → Amounts (withdrawn s r).state (all_noted q (withdrawn s r).events)

module _ (s : State) (r : List ℕ) (good : Good s) (legal : are_legal 5 r ≡ true) (accepted : lowest (withdrawal_rules s r) ≡ 0) where
  in_account : field r 2 ≤ s accounts (64 * field r 0 + field r 1)
  unfolding withdrawal_rules
  in_account = ltb-false (s accounts (64 * field r 0 + field r 1)) (field r 2) (none_applies (withdrawal_rules s r) refl accepted).1.1.0

  withdrawal_bonds : (p i : ℕ) → p < 32 → i < 64 → holding (withdrawn s r).state p i + nominal_at r p i ≡ holding s p i
  unfolding withdrawn kinds
  withdrawal_bonds p i h l =
      let x = s accounts (64 * field r 0 + field r 1) - field r 2 in
      let security = field_in_lem 5 1 r legal (omega arith) in
      nominal_cases (λ (y : ℕ). holding (withdrawn s r).state p i + y ≡ holding s p i) r p i
      (λ a b. rw (a, b) (omega (arith, in_account, account_same s (field r 0) (field r 1) x)))
      (λ d. omega (arith, account_other s (field r 0) (field r 1) x p i (omega arith) l d))

  withdrawal_held : (p i : ℕ) → p < 32 → i < 64 → holding (withdrawn s r).state p i ≤ 500000000
  withdrawal_held p i h l = omega (arith, withdrawal_bonds p i h l, good.facts.held p i h l)

  pub withdrawal : Withdrawal s r
  unfolding withdrawn all_noted kinds holding
  withdrawal =
      let participant = field_in_lem 5 0 r legal (omega arith) in
      let security = field_in_lem 5 1 r legal (omega arith) in
      let account = account_le s good.facts (field r 0) (field r 1) (omega arith) (omega arith) in
      record {
        good = good_account s (field r 0) (field r 1) (s accounts (64 * field r 0 + field r 1) - field r 2) good (omega arith) (omega arith) (omega arith) withdrawal_held;
        bonds = withdrawal_bonds;
        enough = omega (arith, in_account);
        amounts = λ q h. h;
      }
