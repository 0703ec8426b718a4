-- What the methods of a reader's state ensure, of its words and of the memory that is lent for a line. Assumes nothing.
use Rattle.std.specs.Prelude.{ℕ, ◌≤◌, ◌<◌, ◌≡◌, true, false, List, length, get_or, take, drop, set, Option}
use Rattle.store.specs.Words.{world_of}
use Rattle.text_form.specs.Reader as reader
use Rattle.text_form.specs.Reader.{first, later, ended, Reader, Read, read, is_ended, end_line, read_bytes, last_line}
use Rattle.text_line.specs.declared.Memory.{Memory}
use Rattle.text_reader.specs.declared.Phase.{Phase}
use Rattle.text_reader.specs.declared.Phase.TheVariants.{First, Later, Ended}
use Rattle.text_reader.specs.declared.Progress.{Progress}
use Rattle.text_reader.specs.declared.State.{State}
use Rattle.text_reader.specs.Memory.{phase_in, reader_of, maximum_count, taken_of, Reads}

abbrev pub phase_as : Phase → List ℕ → reader.Phase
phase_as First columns = first
phase_as Later columns = later columns
phase_as Ended columns = ended

-- another line can be counted
abbrev pub CanCount : State → Type 0
CanCount state = get_or state.words.now 1 0 < maximum_count

-- and reading has not ended
pub record CanRead (state : State) : Type 0 where
  pub unended : is_ended (phase_in state.words.now) ≡ false
  pub counts : CanCount state

-- all is written through the references that were lent
pub record SameLent (state : State) (memory : Memory) (state' : State) (memory' : Memory) : Type 0 where
  pub same_state : state'.words.ghost_name ≡ state.words.ghost_name
  pub same_words : memory'.words.ghost_name ≡ memory.words.ghost_name
  pub same_strings : memory'.strings.ghost_name ≡ memory.strings.ghost_name
  pub same_rows : memory'.rows.ghost_name ≡ memory.rows.ghost_name

abbrev pub reader_in : State → Memory → List ℕ → Reader
reader_in state memory line = reader_of memory.words.now memory.strings.now state.words.now line

-- a line is complete, with these bytes; no line has begun then, whatever the bytes for it
pub record LineEnded (state : State) (memory : Memory) (line : Option (List ℕ)) (state' : State) (memory' : Memory) (written : ℕ) : Type 0 where
  pub same : SameLent state memory state' memory'
  pub reads : (bytes : List ℕ) → read (reader_in state' memory' bytes) (take written memory'.rows.now)
      ≡ end_line (reader.reader (phase_in state.words.now) (get_or state.words.now 1 0) line (world_of memory.words.now memory.strings.now)) (phase_in state.words.now)
  pub rest : drop written memory'.rows.now ≡ drop written memory.rows.now
  pub fits : written ≤ length memory.rows.now

-- a piece was read, up to and with its first line feed
pub record PieceRead (state : State) (memory : Memory) (line piece : List ℕ) (p : Progress) (state' : State) (memory' : Memory) (line' : List ℕ) : Type 0 where
  pub same : SameLent state memory state' memory'
  pub accepted : p.accepted ≡ true
  pub takes : p.taken ≡ taken_of false piece
  pub does : Reads memory.rows.now (read_bytes (reader_in state memory line) (take p.taken piece)) memory'.words.now memory'.strings.now state'.words.now line' memory'.rows.now p.written

-- the last line was read, before the reader is closed
pub record LastRead (state : State) (memory : Memory) (line : List ℕ) (state' : State) (memory' : Memory) (written : ℕ) : Type 0 where
  pub same : SameLent state memory state' memory'
  pub reads : read (reader_in state' memory' line) (take written memory'.rows.now) ≡ last_line (reader_in state memory line) (phase_in state.words.now)
  pub rest : drop written memory'.rows.now ≡ drop written memory.rows.now
  pub fits : written ≤ length memory.rows.now

pub record Closed (state state' : State) : Type 0 where
  pub same_state : state'.words.ghost_name ≡ state.words.ghost_name
  pub words : state'.words.now ≡ set (set state.words.now 0 2) 2 0
