-- A text given to `feed` in pieces and then to `end`, nothing else writing the reader's memory. Assumes nothing.
use Rattle.std.specs.Prelude.{ℕ, ◌≤◌, ◌<◌, ◌≡◌, true, false, List, [], ◌++◌, length, take, drop}
use Rattle.text_form.specs.Lines.{maximum_line}
use Rattle.text_form.specs.Reader.{is_ended}
use Rattle.text_form.specs.Text.{run_text}
use Rattle.text_form.specs.Texts.{TextKept}
use Rattle.text_reader.specs.declared.Progress.{Progress}
use Rattle.text_line.specs.Lines.{row_room}
use Rattle.text_reader.specs.Memory.{phase_in, Started, Fed, Ended}

-- the store's words, the string table's cells, the reader's state, and the bytes of the line that has begun
pub record ReaderMemory : Type 0 where
  pub words : List ℕ
  pub cells : List ℕ
  pub state : List ℕ
  pub line : List ℕ

-- memory that `start` has begun, by what it ensures, with any bytes for the line
pub record Begun (m : ReaderMemory) : Type 0 where
  pub words₀ : List ℕ
  pub cells₀ : List ℕ
  pub state₀ : List ℕ
  pub started : Started words₀ cells₀ state₀ true m.words m.cells m.state
  pub lined : length m.line ≡ maximum_line

-- one call of `feed`: the memory that it found, its piece, the bytes that it was lent for rows, its progress, and what it left of memory and rows,
-- by what `feed` ensures
abbrev pub FeedCalled : ReaderMemory → List ℕ → List ℕ → Progress → ReaderMemory → List ℕ → Type 0
FeedCalled m piece rows p n rows' = Fed m.words m.cells m.state m.line piece rows p n.words n.cells n.state n.line rows'

-- one call of `end`, which leaves the line's bytes
abbrev pub EndCalled : ReaderMemory → List ℕ → Progress → List ℕ → List ℕ → List ℕ → List ℕ → Type 0
EndCalled m rows p words' cells' state' rows' = Ended m.words m.cells m.state m.line rows p words' cells' state' rows'

abbrev pub after_end : ReaderMemory → List ℕ → List ℕ → List ℕ → ReaderMemory
after_end m words cells state = record { words = words; cells = cells; state = state; line = m.line }

-- Calls that are given an input in order, up to its end: the memory before them, the input, all that they write, and the memory after them.
-- Each finds exactly the memory that its predecessor left, and is lent bytes of its own for rows, whatever they hold.
pub data Feeds : ReaderMemory → List ℕ → List ℕ → ReaderMemory → Type 0 where
  -- `feed`, accepted, of a beginning of what is left, of any size; the calls after it go on with what it did not take
  fed : (m n l : ReaderMemory) (input piece rest : List ℕ) (p : Progress) (lent rows more : List ℕ) → input ≡ piece ++ rest
      → FeedCalled m piece lent p n rows → p.accepted ≡ true → Feeds n (drop p.taken input) more l → Feeds m input (take p.written rows ++ more) l
  -- `end`, accepted, once: nothing is left, or the reader has ended and takes no more
  ended : (m : ReaderMemory) (input : List ℕ) (p : Progress) (lent words cells state rows : List ℕ) → (is_ended (phase_in m.state) ≡ false → input ≡ [])
      → EndCalled m lent p words cells state rows → p.accepted ≡ true → Feeds m input (take p.written rows) (after_end m words cells state)
  -- a refused call, of any piece; the calls go on with the same input
  feed-refused : (m n l : ReaderMemory) (input piece : List ℕ) (p : Progress) (lent rows more : List ℕ)
      → FeedCalled m piece lent p n rows → p.accepted ≡ false → Feeds n input more l → Feeds m input more l
  end_refused : (m l : ReaderMemory) (input : List ℕ) (p : Progress) (lent words cells state rows more : List ℕ)
      → EndCalled m lent p words cells state rows → p.accepted ≡ false → Feeds (after_end m words cells state) input more l → Feeds m input more l

-- what holds of them from memory that `start` has begun, whatever the sizes of the pieces, with the memory that they leave
pub record TextFed (input rows : List ℕ) (m : ReaderMemory) : Type 0 where
  pub rows_are : rows ≡ run_text input  -- all that they wrote, one after another, is the output of the whole text
  pub kept : TextKept input  -- so that what is promised of a text holds of it
  pub closed : is_ended (phase_in m.state) ≡ true  -- and nothing more is read

-- an accepted `feed` goes on: a caller that gives what is left again comes to an end
pub record Advances (state piece : List ℕ) (p : Progress) : Type 0 where
  pub within : p.taken ≤ length piece
  pub takes-some : is_ended (phase_in state) ≡ false → 0 < length piece → 0 < p.taken
  pub takes_none : p.taken ≡ 0 → 0 < length piece → is_ended (phase_in state) ≡ true

-- every refused call among them was lent too little room
unfoldable pub RefusedForRoom : {m n : ReaderMemory} {input rows : List ℕ} → Feeds m input rows n → Type 0
RefusedForRoom (fed m n l input piece rest p lent rows more s f a fs) = RefusedForRoom fs
RefusedForRoom (ended m input p lent words cells state rows h e a) = Unit {0}
RefusedForRoom (feed-refused m n l input piece p lent rows more f a fs) = (length lent < row_room) × RefusedForRoom fs
RefusedForRoom (end_refused m l input p lent words cells state rows more e a fs) = (length lent < row_room) × RefusedForRoom fs
