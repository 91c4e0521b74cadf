-- A stream of calls, and what running it through the exported entries leaves: demand 3, of the very bytes that the code left.
-- Assumes nothing.
use Rattle.std.specs.Prelude.{◌≡◌, cond, List, [], ◌∷◌, ◌++◌, ℕ, ◌-◌, ◌≤◌, eqb, length, get_or, take, drop}
use Rattle.book.specs.State.{state}
use Rattle.ledger.specs.Ledger.{Call, send, ask, Paper, paper_codes, paper_after, book_code, book_next, book_codes, book_after, Agrees, Opened}
use Rattle.rules.specs.Reads.{Read, account, position, exposure, request, basket}

-- a read by its number and two arguments: 1 account, 2 position, 3 exposure, 4 request, 5 and any other basket
abbrev pub read_of : ℕ → ℕ → ℕ → Read
read_of what x y = get_or (account x y ∷ position x y ∷ exposure x ∷ request x ∷ []) (what - 1) (basket x)

-- a call by three words: 0 and the length of a record, which the end of the bytes may cut, or a read's number and arguments
abbrev pub call_of : ℕ → ℕ → ℕ → List ℕ → Call
call_of what x y bytes = cond (eqb what 0) (send (take x bytes)) (ask (read_of what x y))

-- how many of the bytes a call takes
abbrev pub length_of : Call → ℕ
length_of (send r) = length r
length_of (ask q) = 0

-- the calls of a table of words, three a call, with the records' bytes one after the other; words too few for a call are none
unfoldable pub calls_of : List ℕ → List ℕ → List Call
calls_of [] bytes = []
calls_of (what ∷ []) bytes = []
calls_of (what ∷ (x ∷ [])) bytes = []
calls_of (what ∷ (x ∷ (y ∷ words))) bytes =
    let call = call_of what x y bytes in
    call ∷ calls_of words (drop (length_of call) bytes)

-- what the call by three words leaves of the book b: the book after it, its code and how many of the bytes it took, no more than there are
pub record One (what x y : ℕ) (bytes b after : List ℕ) (code n : ℕ) : Type 0 where
  pub book : after ≡ book_next b (call_of what x y bytes)
  pub given : code ≡ book_code b (call_of what x y bytes)
  pub took : n ≡ length_of (call_of what x y bytes)
  pub within : n ≤ length bytes

-- what calls leave of the book b and of the codes lent
pub record Ran (calls : List Call) (b after codes left : List ℕ) (k : ℕ) : Type 0 where
  -- how many they are
  pub count : k ≡ length calls
  -- the book after them
  pub book : after ≡ book_after b calls
  -- their codes, and the codes past them as they were
  pub given : left ≡ book_codes b calls ++ drop k codes
  -- demand 3: where they begin with an accepted opening, whatever the book held and whatever stood on the paper
  pub ledger : (bytes : List ℕ) (rest : List Call) → calls ≡ send bytes ∷ rest → Opened b bytes → (p : Paper)
      → (left ≡ paper_codes p calls ++ drop k codes) × Agrees (state after) (paper_after p calls)
