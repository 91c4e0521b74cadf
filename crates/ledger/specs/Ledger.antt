-- Document 01, "The ledger of demand 3", and demand 3 itself.
-- Assumes nothing.
use Rattle.std.specs.Prelude.{◌≡◌, true, ◌&&◌, cond, List, [], ◌∷◌, ◌++◌, ℕ, ◌+◌, ◌-◌, ◌≤◌, ◌<◌, eqb, length, replicate}
use Rattle.limits.specs.Limits.{greatest_tolerance}
use Rattle.laws.specs.Numbers.{bytes_of}
use Rattle.calendar.specs.Target.{open_day}
use Rattle.book.specs.Layout.{book_length, in_use, exposure_amounts, key_tables}
use Rattle.book.specs.State.{State, state, row_in}
use Rattle.records.specs.Reading.{read}
use Rattle.rules.specs.Call.{step_of, record_code, opens, call_code, call_book}
use Rattle.rules.specs.DayChange.{next_day}
use Rattle.rules.specs.Outcome.{Event, given, settled, returned, closed, lowest}
use Rattle.rules.specs.Fields.{opening_kind, deposit_kind, withdrawal_kind, account_owner, account_security, nominal_in}
use Rattle.rules.specs.Reads.{Read, read_rules, read_code}
use Rattle.rules.specs.Settlement.{settlement}
use Rattle.rules.specs.Stock.{holding}

-- a call of the list: a record's bytes, of any kind, cut or unknown ones too; or a read
pub data Call : Type 0 where
  send : List ℕ → Call
  ask : Read → Call

-- S (settled), R (returned), C (closed) for each exposure row
pub record Sums : Type 0 where
  pub settled_in : ℕ → ℕ
  pub returns : ℕ → ℕ
  pub closes : ℕ → ℕ

-- "It keeps on paper what Steps speak of, and sums: D (deposited), W (withdrawn) for each participant and security", and those
pub record Paper : Type 0 where
  pub steps : State
  pub deposits : ℕ → ℕ → ℕ
  pub withdrawals : ℕ → ℕ → ℕ
  pub sums : Sums

-- "An exposure's amount on paper is S − R − C."
abbrev pub amount_on_paper : Sums → ℕ → ℕ
amount_on_paper p e = p.settled_in e - p.returns e - p.closes e

-- what the Steps are run on: the paper, with the amount of each exposure row by its sums
unfoldable pub on_paper : Paper → State
on_paper p f i = cond (eqb f exposure_amounts) (amount_on_paper p.sums i) (p.steps f i)

-- "is added to": a sum of each exposure row with n more in the row e; "starts with .. 0": with 0 there
abbrev pub added_at : (ℕ → ℕ) → ℕ → ℕ → ℕ → ℕ
added_at f e n d = cond (eqb d e) (f d + n) (f d)

abbrev pub zero_at : (ℕ → ℕ) → ℕ → ℕ → ℕ
zero_at f e d = cond (eqb d e) 0 (f d)

-- "A row given out starts with S, R and C at 0. What a FOP settles is added to its exposure's S, what a return settles to R.
-- In 12, a zeroed exposure's amount is added to C."
abbrev pub noted : Sums → Event → Sums
noted p (given e) = record { settled_in = zero_at p.settled_in e; returns = zero_at p.returns e; closes = zero_at p.closes e }
noted p (settled e x) = record { settled_in = added_at p.settled_in e x; returns = p.returns; closes = p.closes }
noted p (returned e x) = record { settled_in = p.settled_in; returns = added_at p.returns e x; closes = p.closes }
noted p (closed e x) = record { settled_in = p.settled_in; returns = p.returns; closes = added_at p.closes e x }

-- what a step tells of the exposure rows, one event after the other
unfoldable pub all_noted : Sums → List Event → Sums
all_noted p [] = p
all_noted p (e ∷ es) = all_noted (noted p e) es

-- "An opening sets all sums to 0."
abbrev pub fresh : State → Paper
fresh s = record { steps = s; deposits = λ p i. 0; withdrawals = λ p i. 0; sums = record { settled_in = λ e. 0; returns = λ e. 0; closes = λ e. 0 } }

-- "A deposit adds to D, a withdrawal to W": the sum of a participant and security with the record's nominal more, if the record is of that kind
abbrev pub lodged : ℕ → (ℕ → ℕ → ℕ) → ℕ → List ℕ → ℕ → ℕ → ℕ
lodged kind f k r q i = cond (eqb k kind && (eqb q (account_owner r) && eqb i (account_security r))) (f q i + nominal_in r) (f q i)

-- "A call with 0 is accepted and takes its step there": an accepted record of kind k and fields r on paper
unfoldable pub taken_down : Paper → ℕ → List ℕ → Paper
taken_down p k r =
    let step = step_of (on_paper p) k r in
    cond (eqb k opening_kind) (fresh step.state) (record {
      steps = step.state;
      deposits = lodged deposit_kind p.deposits k r;
      withdrawals = lodged withdrawal_kind p.withdrawals k r;
      sums = all_noted p.sums step.events;
    })

-- "A call's code on paper is the one that the rules above give, 0 if none applies (1 and 2 never do)."
unfoldable pub paper_code : Paper → Call → ℕ
paper_code p (send bytes) = record_code (on_paper p) bytes
paper_code p (ask q) = lowest (read_rules (on_paper p) q)

-- "A call with 0 is accepted and takes its step there; a refused call or a read changes nothing."
unfoldable pub paper_next : Paper → Call → Paper
paper_next p (send bytes) = cond (eqb (record_code (on_paper p) bytes) 0) (taken_down p (read bytes).kind (read bytes).fields) p
paper_next p (ask q) = p

-- "It is fed the list's calls with their arguments, no answer and no byte of the book": the codes of a list on paper
unfoldable pub paper_codes : Paper → List Call → List ℕ
paper_codes p [] = []
paper_codes p (c ∷ cs) = paper_code p c ∷ paper_codes (paper_next p c) cs

-- the paper after the list
unfoldable pub paper_after : Paper → List Call → Paper
paper_after p [] = p
paper_after p (c ∷ cs) = paper_after (paper_next p c) cs

-- the same calls on the book: the code that the engine gives
unfoldable pub book_code : List ℕ → Call → ℕ
book_code b (send bytes) = call_code b bytes
book_code b (ask q) = read_code b q

-- the book that a call leaves; a read leaves it as it was
unfoldable pub book_next : List ℕ → Call → List ℕ
book_next b (send bytes) = call_book b bytes
book_next b (ask q) = b

-- "each call getting the book that the last one left and nothing else writing to it": the codes of the list
unfoldable pub book_codes : List ℕ → List Call → List ℕ
book_codes b [] = []
book_codes b (c ∷ cs) = book_code b c ∷ book_codes (book_next b c) cs

-- the book after the list
unfoldable pub book_after : List ℕ → List Call → List ℕ
book_after b [] = b
book_after b (c ∷ cs) = book_after (book_next b c) cs

-- "this holds after the list"
pub record Agrees (s : State) (p : Paper) : Type 0 where
  -- "For every giver and security, the account plus the positions of the giver's exposures hold exactly its accepted deposits less its
  -- accepted withdrawals since the last accepted opening": a difference that does not go below 0
  pub bonds : (q i : ℕ) → q < 32 → i < 64 → holding s q i ≡ p.deposits q i - p.withdrawals q i
  pub withdrawn_within : (q i : ℕ) → q < 32 → i < 64 → p.withdrawals q i ≤ p.deposits q i
  -- "The exposures in use are exactly those of document 01's ledger, in the same rows and under the same keys"
  pub keys : (e : ℕ) → e < 64 → row_in s (in_use ∷ key_tables) e ≡ row_in p.steps (in_use ∷ key_tables) e
  -- "the amount of each equals the amounts settled into it less those returned and those closed since its row was last given out": a
  -- difference that does not go below 0. It is said of every row, in use or not: an exposure that a day change zeroes is freed by the
  -- same day change, so C is 0 in every row in use, and said of those alone it would hold of a ledger that forgets closings
  pub amounts : (e : ℕ) → e < 64 → s exposure_amounts e ≡ amount_on_paper p.sums e
  pub not_below : (e : ℕ) → e < 64 → p.sums.returns e + p.sums.closes e ≤ p.sums.settled_in e

-- a list "that begins with an accepted opening, whatever the book held before"
pub record Opened (b bytes : List ℕ) : Type 0 where
  pub kind : opens bytes ≡ true
  pub accepted : call_code b bytes ≡ 0

-- "this holds after the list", and "every call in the list gave the ledger's code"
pub record Holds (b : List ℕ) (p : Paper) (calls : List Call) : Type 0 where
  pub codes : book_codes b calls ≡ paper_codes p calls
  pub agrees : Agrees (state (book_after b calls)) (paper_after p calls)

-- demand 3: whatever the book held before, and whatever stood on the paper. It speaks of the engine through the promises of the exported
-- entries, whose answers and books are call_answer, call_book and read_answer for all lent bytes, and whose reads leave the book as it was
abbrev pub Demand3 : Type 0
Demand3 = (b : List ℕ) (p : Paper) (bytes : List ℕ) (calls : List Call) → Opened b bytes → Holds b p (send bytes ∷ calls)

-- an opening's bytes: its kind, "day 32, tolerance 32"
abbrev pub opening_of : ℕ → ℕ → List ℕ
opening_of day tolerance = 0 ∷ (bytes_of 4 day ++ bytes_of 4 tolerance)

-- there are lists that demand 3 speaks of: "Every other call is accepted", so openings are
pub record OpeningAccepted : Type 0 where
  -- on every book of the right length, of every open day, with every "tolerance 32 (1 to 100,000,000)"
  pub every : (b : List ℕ) (day tolerance : ℕ) → length b ≡ book_length → open_day day ≡ true → 1 ≤ tolerance → tolerance ≤ greatest_tolerance
      → Opened b (opening_of day tolerance)
  -- the first record of document 01's input, "0: 1, 10000", on the program's book that "starts as zero bytes"
  pub first_line : Opened (replicate book_length 0) (0 ∷ 0 ∷ 0 ∷ 0 ∷ 1 ∷ 0 ∷ 0 ∷ 39 ∷ 16 ∷ [])

-- the cents that events tell of
abbrev pub cents_in : Event → ℕ
cents_in (given e) = 0
cents_in (settled e x) = x
cents_in (returned e x) = x
cents_in (closed e x) = x

unfoldable pub cents_told : List Event → ℕ
cents_told [] = 0
cents_told (e ∷ es) = cents_in e + cents_told es

-- "M: cents settled by both", "M: amounts closed" are what the ledger is told
pub record MoneyTold (s : State) : Type 0 where
  pub settle : (settlement s).m ≡ cents_told (settlement s).events
  pub next_day_lem : (next_day s).m ≡ cents_told (next_day s).events

abbrev pub AllMoneyTold : Type 0
AllMoneyTold = (s : State) → MoneyTold s
