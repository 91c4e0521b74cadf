-- Openings are accepted.
-- Assumes nothing.
use mathlib.Core.Path.{◌≡◌, refl, sym}
use mathlib.Core.Bool.{true}
use mathlib.Core.List.{List, ◌∷◌}
use Prim.Native.Nat.{ℕ, ◌-◌, ◌≤◌}
use native.Mathlib.Omega.{arith}
use lib.ListN.{length, replicate, length-replicate}
use borrow.Author.Tests.{eq-eqb}
use Rattle.laws.specs.Numbers.{bytes_of}
use Rattle.laws.specs.Search.{all, largest}
use Rattle.laws.specs.Sum.{sum}
use Rattle.calendar.specs.Easter.{easter}
use Rattle.calendar.specs.Gregorian.{leap_day, start_of, year_of, day_of_year}
use Rattle.calendar.specs.Target.{holiday, open_day}
use Rattle.calendar.proofs.OpenDays.{open_within}
use Rattle.record_kinds.specs.Kinds.{kinds, places, offset_of, in_range}
use Rattle.records.specs.Reading.{read, taken}
use Rattle.records.specs.Writing.{are_legal, record_bytes_to, write_code, written}
use Rattle.records.proofs.RoundTrip.{reads_back}
use Rattle.records.proofs.Returns.{write_legal}
use Rattle.book.specs.Layout.{book_length}
use Rattle.book.specs.State.{State, state}
use Rattle.rules.specs.Call.{record_code, call_code}
use Rattle.rules.specs.Codes.{opening_rules, code_of}
use Rattle.facts.proofs.Truth.{facts_between}
use Rattle.ledger.specs.Ledger.{opening_of, Opened, OpeningAccepted}

module _ (day tolerance : ℕ) (open_day_lem : open_day day ≡ true) (low : 1 ≤ tolerance) (high : tolerance ≤ 100000000) where
  abbrev fields : List ℕ
  fields = day ∷ tolerance ∷ replicate (places - 2) 0

  legal : are_legal 0 fields ≡ true
  unfolding all kinds
  legal =
      let day-in : in_range 0 0 day ≡ true = facts_between 0 4294967295 day (omega arith, omega (arith, open_within day open_day_lem)) in
      let tolerance_in : in_range 0 1 tolerance ≡ true = facts_between 1 100000000 tolerance (low, high) in
      rw (day-in, all) (rw (tolerance_in, all))

  -- the writer takes the record, whatever stood in the nine bytes, and writes the opening's
  writable : write_code 0 fields (replicate 9 0) ≡ 0
  unfolding kinds offset_of sum
  writable = sym (write_legal 0 fields (replicate 9 0) (omega arith) refl legal)

  is_written : written 0 fields (replicate 9 0) ≡ opening_of day tolerance
  unfolding written record_bytes_to kinds bytes_of
  is_written = rw writable

  -- "Every legal record reads back as it was written"
  is_read : read (opening_of day tolerance) ≡ taken 0 fields
  is_read = rw is_written at (reads_back 0 fields (replicate 9 0) refl writable)

  no_rule : (s : State) → record_code s (opening_of day tolerance) ≡ 0
  unfolding record_code code_of opening_rules
  no_rule s = rw (is_read, open_day_lem)

  opening : (b : List ℕ) → length b ≡ book_length → Opened b (opening_of day tolerance)
  unfolding call_code bytes_of
  opening b long = record { kind = refl; accepted = rw (eq-eqb (length b) book_length long) (no_rule (state b)) }

-- day 1 is open
day_one : open_day 1 ≡ true
unfolding open_day holiday day_of_year year_of start_of leap_day easter largest
day_one = refl

pub opening_accepted : OpeningAccepted
unfolding bytes_of
opening_accepted = record {
  every = λ b day tolerance long open_day_lem low high. opening day tolerance open_day_lem low high b long;
  first_line = opening 1 10000 day_one (omega arith) (omega arith) (replicate book_length 0) (length-replicate {A = ℕ} book_length 0);
}
