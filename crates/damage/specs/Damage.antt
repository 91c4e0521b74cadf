-- What a call and a read begin with: codes 1 and 2.
-- Assumes nothing.
use Rattle.std.specs.Prelude.{Bool, not, ◌&&◌, cond, List, ℕ, eqb, length}
use Rattle.book.specs.Layout.{book_length}
use Rattle.book.specs.State.{state}
use Rattle.rules.specs.Call.{opens}
use Rattle.rules.specs.Sound.{sound}

-- 1: book of another length; 2: book not sound, not tested for an opening; else the code n that comes next
abbrev pub code_after : List ℕ → Bool → ℕ → ℕ
code_after book opening n = cond (not (eqb (length book) book_length)) 1 (cond (not opening && not (sound (state book))) 2 n)

-- those two alone
abbrev pub book_damage : List ℕ → Bool → ℕ
book_damage book opening = code_after book opening 0

-- and those of a call with a record's bytes
abbrev pub damage : List ℕ → List ℕ → ℕ
damage book bytes = book_damage book (opens bytes)
