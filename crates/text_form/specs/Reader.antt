-- Reading a text byte by byte: what is kept between bytes, and the rows that each gives. Assumes nothing.
use Rattle.std.specs.Prelude.{ℕ, suc, ◌+◌, ◌≤◌, Bool, true, false, cond, List, [], ◌∷◌, ◌++◌, eqb, leb, ltb, length, Option, None, Some}
use Rattle.store.specs.Store.{World, empty}
use Rattle.record.specs.Characters.{line_feed}
use Rattle.steps.specs.Response.{refusal, Effect}
use Rattle.steps.specs.Run.{Call, effect}
use Rattle.steps.specs.Step.{refusing}
use Rattle.text_form.specs.Lines.{maximum_line, columns_of, call_in}
use Rattle.text_form.specs.Rows.{heading, row}

-- the first line is to come; lines under these columns; nothing more is read
pub data Phase : Type 0 where
  first : Phase
  later : (columns : List ℕ) → Phase
  ended : Phase

pub record Reader : Type 0 where
  pub phase : Phase
  pub count : ℕ  -- the lines after the first so far
  pub line : Option (List ℕ)  -- the line that has begun; none once it is too long
  pub world : World

abbrev pub reader : Phase → ℕ → Option (List ℕ) → World → Reader
reader phase count line ω = record { phase = phase; count = count; line = line; world = ω }

abbrev pub start : Reader
start = reader first 0 (Some []) empty

-- a reader, and the rows given on the way there
pub record Read : Type 0 where
  pub reader : Reader
  pub rows : List ℕ

abbrev pub read : Reader → List ℕ → Read
read r rows = record { reader = r; rows = rows }

abbrev pub add_byte : Option (List ℕ) → ℕ → Option (List ℕ)
add_byte None b = None
add_byte (Some line) b = cond (ltb (length line) maximum_line) (Some (line ++ (b ∷ []))) None

-- a line that is too long is neither names nor a call
abbrev pub columns_in : Option (List ℕ) → Option (List ℕ)
columns_in None = None
columns_in (Some line) = columns_of line

abbrev pub line_call : List ℕ → Option (List ℕ) → Option Call
line_call columns None = None
line_call columns (Some line) = call_in columns line

-- the first line is complete
abbrev pub named : ℕ → World → Option (List ℕ) → Read
named count ω None = read (reader ended count (Some []) ω) (heading ++ row 0 (refusal 12))
named count ω (Some columns) = read (reader (later columns) count (Some []) ω) heading

-- what a line does: a call, or refusal 12, which leaves everything
abbrev pub line_effect : World → Option Call → Effect
line_effect ω None = refusing 12 ω []
line_effect ω (Some c) = effect ω c

abbrev pub performed : List ℕ → ℕ → Effect → Read
performed columns n e = read (reader (later columns) n (Some []) e.world) (row n e.response)

-- a line is complete
unfoldable pub end_line : Reader → Phase → Read
end_line r first = named r.count r.world (columns_in r.line)
end_line r (later columns) = performed columns (suc r.count) (line_effect r.world (line_call columns r.line))
end_line r ended = read r []

abbrev pub keep_byte : Reader → ℕ → Reader
keep_byte r b = reader r.phase r.count (add_byte r.line b) r.world

abbrev pub is_ended : Phase → Bool
is_ended first = false
is_ended (later columns) = false
is_ended ended = true

abbrev pub read_byte : Reader → ℕ → Read
read_byte r b = cond (is_ended r.phase) (read r []) (cond (eqb b line_feed) (end_line r r.phase) (read (keep_byte r b) []))

-- all of these bytes
unfoldable pub read_bytes : Reader → List ℕ → Read
read_bytes r [] = read r []
read_bytes r (b ∷ bytes) =
    let one = read_byte r b in
    let more = read_bytes one.reader bytes in
    read more.reader (one.rows ++ more.rows)

-- a line that has begun, with a piece behind it; none once it is too long
abbrev pub added : Option (List ℕ) → List ℕ → Option (List ℕ)
added None piece = None
added (Some line) piece = cond (leb (length line + length piece) maximum_line) (Some (line ++ piece)) None

abbrev pub kept : Reader → List ℕ → Reader
kept r piece = reader r.phase r.count (added r.line piece) r.world

-- the line that has begun is none that is too long
abbrev pub Fits : Option (List ℕ) → Type 0
Fits None = Unit {0}
Fits (Some line) = length line ≤ maximum_line

-- at the end of the input a line that has begun is complete; the first line is, even if nothing came
abbrev pub has_begun : Option (List ℕ) → Bool
has_begun None = true
has_begun (Some []) = false
has_begun (Some (b ∷ line)) = true

abbrev pub last_line : Reader → Phase → Read
last_line r first = end_line r first
last_line r (later columns) = cond (has_begun r.line) (end_line r (later columns)) (read r [])
last_line r ended = read r []

abbrev pub close : Reader → Reader
close r = reader ended r.count (Some []) r.world

unfoldable pub end_input : Reader → Read
end_input r = let last = last_line r r.phase in read (close last.reader) last.rows
