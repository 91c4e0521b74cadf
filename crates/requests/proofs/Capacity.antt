-- What an accepted record has to hand: rows and numbers, an exposure row, the row that a cancel names.
-- Assumes nothing.
use mathlib.Core.Path.{◌≡◌, refl}
use mathlib.Core.Bool.{true}
use mathlib.Core.List.{List}
use Prim.Native.Nat.{ℕ, ◌+◌, ◌<◌}
use native.Mathlib.Omega.{arith}
use lib.ListN.{get_or}
use borrow.Author.Tests.{eqb-false, ne_eqb, lt-ltb}
use Rattle.std.specs.Prelude.{Option, Some}
use Rattle.std.specs.Option.{IsSome}
use Rattle.laws.specs.Found.{found}
use Rattle.laws.proofs.Found.{found_some}
use Rattle.laws.proofs.Cases.{clash}
use Rattle.book.specs.Layout.{next_number, partners}
use Rattle.book.specs.State.{State}
use Rattle.record_kinds.specs.Numbered.{kind_number}
use Rattle.record_kinds.specs.declared.Kind.{Kind}
use Rattle.record_kinds.specs.declared.Kind.TheVariants.{Fop, Return}
use Rattle.records.specs.Writing.{are_legal}
use Rattle.facts.specs.Good.{Sound}
use Rattle.facts.proofs.Written.{sound_facts}
use Rattle.facts.proofs.Rows.{head_facts, used_fields, used_paired}
use Rattle.facts.proofs.Rules.{no_rule}
use Rattle.rules.specs.Codes.{fop_rules, return_rules, cancel_rules}
use Rattle.rules.specs.Outcome.{lowest}
use Rattle.rules.specs.Requests.{is_used, is_paired, partner_of, free_exposure}
use Rattle.rules.specs.Requesting.{taker_follows, needs_exposure, own_request}
use Rattle.rules.specs.Sound.{sound}
use Rattle.request_laws.proofs.Accepting.{fop_enough, fop_exposure, return_enough}
use Rattle.request_laws.proofs.EntryCases.{Enough, needed_low}
use Rattle.request_laws.proofs.Finding.{free_row_lem, second_row, free_exposure_lem, own_used}
use Rattle.requests.specs.Steps.{Room, PairIn}

module _ (s : State) (r : List ℕ) (sound-now : sound s ≡ true) where
  facts : Sound s
  facts = sound_facts s sound-now

  room_of : (k : ℕ) → Enough s r → (needs_exposure s k r ≡ true → free_exposure s < 64) → Room s k r
  room_of k m exposure =
      let n = needed_low (taker_follows s r) in
      let first = free_row_lem s (omega (arith, m.rows)) in
      record {
        one = record { row = first.below; number = omega (arith, m.numbers) };
        two = λ t. record {
          first = first.below;
          second = (second_row s (s next_number 0) (rw t at m.rows) (head_facts s facts.head).next_low).0.below;
          number = rw t at m.numbers;
        };
        exposure = exposure;
      }

  fop_case : are_legal 6 r ≡ true → lowest (fop_rules s r) ≡ 0 → Room s 6 r
  fop_case legal h = room_of 6 (fop_enough s r legal h) (λ needs. (free_exposure_lem s (fop_exposure s r legal h needs)).0)

  return_case : are_legal 7 r ≡ true → lowest (return_rules s r) ≡ 0 → Room s 7 r
  return_case legal h = room_of 7 (return_enough s r legal h) (λ e. clash e refl)

  module _ {kind : Kind} where
    pub fop_room : kind ≡ Fop → are_legal (kind_number kind) r ≡ true → lowest (fop_rules s r) ≡ 0 → Room s (kind_number kind) r
    fop_room k legal h = rw k (fop_case (rw k at legal) h)

    pub return_room : kind ≡ Return → are_legal (kind_number kind) r ≡ true → lowest (return_rules s r) ≡ 0 → Room s (kind_number kind) r
    return_room k legal h = rw k (return_case (rw k at legal) h)

  -- the request that a cancel names
  abbrev row : ℕ
  row = own_request s (get_or r 0 0) (get_or r 1 0)

  module _ (h : lowest (cancel_rules s r) ≡ 0) where
    own : (row < 256) × (is_used s row ≡ true)
    unfolding cancel_rules
    own = own_used s (get_or r 0 0) (get_or r 1 0) (eqb-false row 256 (no_rule (cancel_rules s r) refl h 1))

    module _ {o : Option ℕ} (oq : o ≡ found 256 row) where
      pub some_own : IsSome o
      some_own = rw (oq, lt-ltb row 256 own.0)

      pub cancel_pair : {i j : ℕ} → o ≡ Some i → s partners i ≡ j + 1 → PairIn s i j
      cancel_pair {i} {j} is e =
          let which = found_some 256 row oq is in
          let below : i < 256 = omega (which.0, which.1, arith) in
          let used : is_used s i ≡ true = rw which.0 own.1 in
          let sound-row = facts.row i below in
          let parties = (used_fields s i sound-row used).parties in
          let paired : is_paired s i ≡ true = rw (ne_eqb (s partners i) 0 (λ z. omega (arith, e, z))) in
          let same : j ≡ partner_of s i = omega (arith, e) in
          record {
            row = below;
            giver = parties.giver_below;
            taker = parties.taker_below;
            partner = same;
            partner_row = rw same (used_paired s i sound-row used paired).pair.partner_below;
          }
