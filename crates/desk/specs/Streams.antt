-- What a run of the program has read and written, by what its reader has left and its writer holds, where these are known.
-- Assumes nothing.
use Rattle.std.specs.Prelude.{◌≡◌, true, ◌++◌, List, [], ℕ, ◌<◌, length, drop, Some}
use Rattle.std.specs.declared.option.Option.{Option}
use Rattle.std.specs.Io.KnownBytes.{Consumes, Appends, IsAtEnd}
use Rattle.lines.specs.Program.{first_record}
use Rattle.lines.specs.Pieces.{served_all, is_over, Reached}

-- a read: the bytes that the reader gave stand behind those that were held
pub record Gained (left₀ left : Option (List ℕ)) (held₀ held : List ℕ) : Type 0 where
  pub got : List ℕ
  pub consumed : Consumes left₀ left got
  pub behind : held ≡ held₀ ++ got

-- what is held is served: its whole records are taken from it, and no whole record is left
pub record ServesHeld (book₀ held₀ : List ℕ) (place₀ : ℕ) (book lines held : List ℕ) (place : ℕ) : Type 0 where
  pub books : book ≡ (served_all book₀ place₀ held₀).book
  pub texts : lines ≡ (served_all book₀ place₀ held₀).text
  pub places : place ≡ (served_all book₀ place₀ held₀).place
  pub rest : held ≡ drop (served_all book₀ place₀ held₀).taken held₀
  pub none : 0 ≡ first_record held

-- a piece: what was held with what the reader gave behind it is served, and the writer took its lines
pub record Piece (left₀ left holds₀ holds : Option (List ℕ)) (book₀ held₀ : List ℕ) (place₀ : ℕ) (book held : List ℕ) (place : ℕ) : Type 0 where
  pub got : List ℕ
  pub lines : List ℕ
  pub consumed : Consumes left₀ left got
  pub served : ServesHeld book₀ (held₀ ++ got) place₀ book lines held place
  pub appended : Appends holds₀ holds lines

-- a write that failed: what was held with what the reader gave behind it is served all the same
pub record Unwritten (left₀ left : Option (List ℕ)) (book₀ held₀ : List ℕ) (place₀ : ℕ) (book held : List ℕ) (place : ℕ) : Type 0 where
  pub got : List ℕ
  pub lines : List ℕ
  pub consumed : Consumes left₀ left got
  pub served : ServesHeld book₀ (held₀ ++ got) place₀ book lines held place
  pub end : got ≡ [] → length held₀ < 512 → IsAtEnd left

-- a read that failed: it gave nothing, nothing was served, and the writer took nothing
pub record Unread (left₀ left holds₀ holds : Option (List ℕ)) (book₀ held₀ : List ℕ) (place₀ : ℕ) (book held : List ℕ) (place : ℕ) : Type 0 where
  pub consumed : Consumes left₀ left []
  pub appended : Appends holds₀ holds []
  pub books : book ≡ book₀
  pub rest : held ≡ held₀
  pub places : place ≡ place₀

-- between two pieces: an input that the reader gave, and a text that the writer took, which with what is held, and whatever comes behind, are
-- the text of the whole input; no whole record is held
pub record Between (left₀ left holds₀ holds : Option (List ℕ)) (book held : List ℕ) (place : ℕ) : Type 0 where
  pub input : List ℕ
  pub written : List ℕ
  pub reached : Reached input written book held place
  pub consumed : Consumes left₀ left input
  pub appended : Appends holds₀ holds written
  pub served : 0 ≡ first_record held

-- a run that stopped at a write that failed: an input that the reader gave leads to this book, this place and what is held, with the text of
-- its lines, of which the writer may have taken less
pub record Undelivered (left₀ left : Option (List ℕ)) (book held : List ℕ) (place : ℕ) : Type 0 where
  pub input : List ℕ
  pub text : List ℕ
  pub reached : Reached input text book held place
  pub consumed : Consumes left₀ left input

-- nothing is to be read any more: the reader is at its end, or an unknown record is held, by what the last read gave
pub record Over (left : Option (List ℕ)) (held : List ℕ) : Type 0 where
  pub count : ℕ
  pub over : is_over (Some count) held ≡ true
  pub end : count ≡ 0 → IsAtEnd left

-- a run that stopped at a read that failed: the writer took the lines of the whole records of what the reader gave, and nothing of the rest
pub record Stopped (left₀ left holds₀ holds : Option (List ℕ)) : Type 0 where
  pub book : List ℕ
  pub held : List ℕ
  pub place : ℕ
  pub between : Between left₀ left holds₀ holds book held place
