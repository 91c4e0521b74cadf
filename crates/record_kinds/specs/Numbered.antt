-- The kinds by their names in the code, and the number of each in the table.
-- Assumes nothing.
use Rattle.std.specs.Prelude.{◌≡◌, ℕ, ◌≤◌, Result, MatchResult}
use Rattle.answers.specs.declared.Refusal.{Refusal}
use Rattle.answers.specs.declared.Refusal.TheVariants.{Malformed}
use Rattle.record_kinds.specs.Typed.{kind_count}
use Rattle.record_kinds.specs.declared.Kind.{Kind}
use Rattle.record_kinds.specs.declared.Kind.TheVariants.{Opening, Price, Participant, Basket, Deposit, Withdrawal, Fop, Return, Cancel, Settle, Mark, Recall, NextDay}

-- the number of a kind
abbrev pub kind_number : Kind → ℕ
kind_number Opening = 0
kind_number Price = 1
kind_number Participant = 2
kind_number Basket = 3
kind_number Deposit = 4
kind_number Withdrawal = 5
kind_number Fop = 6
kind_number Return = 7
kind_number Cancel = 8
kind_number Settle = 9
kind_number Mark = 10
kind_number Recall = 11
kind_number NextDay = 12

-- the outcome is the kind that has the number, or Malformed for a number that no kind has
abbrev pub Names : ℕ → Result Kind Refusal → Type 0
Names x r = MatchResult r (λ kind. kind_number kind ≡ x) (λ refusal. (kind_count ≤ x) × (refusal ≡ Malformed))
